use Rattle.std.proofs.Common.{◌≡◌, ◌++◌, drop}
use Rattle.trace_race.specs.Raced.{step_lines}
use Rattle.trace_text.specs.Texts.{text_of_report}
use Rattle.trace_outcomes.proofs.writing.add_first.Given as goal

abbrev pub invariant-loop-place : goal.invariant-loop-place
invariant-loop-place l =
    l.text.items ++ text_of_report (step_lines (drop l.place l.steps) (drop l.place l.replies))
    ≡ l.fn.text.items ++ text_of_report (step_lines l.steps l.replies)
