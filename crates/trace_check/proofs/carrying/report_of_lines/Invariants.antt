use Rattle.std.proofs.Common.{◌≤◌, ◌+◌, drop, map}
use Rattle.trace_text.specs.Ready.{IsReady}
use Rattle.trace_text.specs.View.{standing_of}
use Rattle.trace_check.specs.View.{told_in}
use Rattle.trace_check.proofs.Going.{Goes}
use Rattle.trace_check.proofs.carrying.report_of_lines.Given as goal

abbrev pub invariant-loop-place : goal.invariant-loop-place
invariant-loop-place g l = record {
  goes : Goes (map (λ line. line.now) l.lines) (l.place + 1) (standing_of l.session)
      (map (λ line. line.now) (drop l.place l.lines)) (told_in l.told.items);
  ready : IsReady l.session;
  few : (standing_of l.session).steps ≤ l.place;
}
