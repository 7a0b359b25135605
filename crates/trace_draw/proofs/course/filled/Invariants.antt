use Rattle.std.specs.Prelude.{◌≤◌, map}
use Rattle.trace_draw.proofs.Leading.{IsAhead}
use Rattle.trace_text.specs.Ready.{IsReady}
use Rattle.trace_text.specs.View.{standing_of}
use Rattle.trace_draw.proofs.course.filled.Given as goal

abbrev pub invariant-loop-place : goal.invariant-loop-place
invariant-loop-place g l = record {
  ahead : IsAhead (map (λ line. line.now) l.lines) l.place (standing_of l.session);
  few : (standing_of l.session).steps ≤ l.place;
  ready : IsReady l.session;
}
