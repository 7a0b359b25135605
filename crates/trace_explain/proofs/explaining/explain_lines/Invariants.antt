use Rattle.std.proofs.Common.{◌≤◌, map}
use Rattle.trace_explain.proofs.Leading.{IsAhead}
use Rattle.trace_text.specs.Ready.{IsReady}
use Rattle.trace_text.specs.View.{standing_of}
use Rattle.trace_explain.proofs.explaining.explain_lines.Given as goal

abbrev pub invariant-loop-place : goal.invariant-loop-place
invariant-loop-place g l = record {
  ahead : IsAhead l.only l.name (map (λ line. line.now) l.lines) l.place (standing_of l.session) l.text.items;
  few : (standing_of l.session).steps ≤ l.place;
  ready : IsReady l.session;
}
