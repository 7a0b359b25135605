use Rattle.std.proofs.Common.{◌≡◌, ◌++◌, drop}
use Rattle.trace_outcomes.specs.Texts.{outcomes_text}
use Rattle.trace_outcomes.proofs.writing.add_outcomes.Given as goal

abbrev pub invariant-loop-outcome : goal.invariant-loop-outcome
invariant-loop-outcome l =
    l.text.items ++ outcomes_text l.steps l.varied (drop l.outcome-index l.found)
    ≡ l.fn.text.items ++ outcomes_text l.steps l.varied l.found
