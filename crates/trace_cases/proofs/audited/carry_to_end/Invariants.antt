use Rattle.std.proofs.Common.{◌≤◌, ◌+◌, drop, map}
use Rattle.trace_text.specs.Ready.{IsReady}
use Rattle.trace_audit.specs.View.{audited_of}
use Rattle.trace_check.specs.View.{told_in}
use Rattle.trace_cases.proofs.Going.{Goes}
use Rattle.trace_cases.proofs.audited.carry_to_end.Given as goal

abbrev pub invariant-loop-place : goal.invariant-loop-place
invariant-loop-place g l = record {
  goes : Goes (map (λ line. line.now) l.lines) (l.place + 1) (audited_of l.audit)
      (map (λ line. line.now) (drop l.place l.lines)) (told_in l.told.items);
  ready : IsReady l.audit.session;
  few : (audited_of l.audit).session.steps ≤ l.place;
}
