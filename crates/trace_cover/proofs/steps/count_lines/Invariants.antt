use Rattle.std.proofs.Common.{◌≡◌, ◌≤◌, map}
use Rattle.trace_cover.proofs.Going.{IsAhead}
use Rattle.trace_text.specs.Ready.{IsReady}
use Rattle.trace_text.specs.View.{standing_of}
use Rattle.trace_cover.proofs.steps.count_lines.Given as goal

abbrev pub invariant-loop-place : goal.invariant-loop-place
invariant-loop-place g l = record {
  ahead : IsAhead l.name (map (λ line. line.now) l.lines) l.fn.seen.items l.fn.text.items l.place
      (standing_of l.session) l.seen.items;
  said : l.text.items ≡ l.fn.text.items;
  few : (standing_of l.session).steps ≤ l.place;
  ready : IsReady l.session;
}
