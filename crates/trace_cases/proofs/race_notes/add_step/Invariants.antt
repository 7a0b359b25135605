use Rattle.std.proofs.Common.{◌≡◌, drop}
use Rattle.trace_check.specs.View.{lines_in}
use Rattle.trace_cases.specs.RaceChecks.{notes_from}
use Rattle.trace_cases.proofs.race_notes.add_step.Given as goal

abbrev pub invariant-loop-place : goal.invariant-loop-place
invariant-loop-place l = record {
  recorded : lines_in l.recorded.items ≡ lines_in l.fn.recorded.items;
  left : notes_from l.found l.number l.place (drop l.place l.steps) ≡ notes_from l.found l.number 0 l.steps;
}
