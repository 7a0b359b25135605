use Rattle.std.proofs.Common.{◌≡◌, ◌++◌, drop, length}
use Rattle.trace_outcomes.specs.Texts.{steps_text, varied_from}
use Rattle.trace_outcomes.proofs.writing.add_steps.Given as goal

abbrev pub invariant-loop-place : goal.invariant-loop-place
invariant-loop-place l = record {
  count : length l.varied.items ≡ l.place;
  text : l.text.items ++ steps_text l.found l.place (drop l.place l.steps)
      ≡ l.fn.text.items ++ steps_text l.found 0 l.steps;
  varied : l.varied.items ++ varied_from l.found l.place (drop l.place l.steps) ≡ varied_from l.found 0 l.steps;
}
