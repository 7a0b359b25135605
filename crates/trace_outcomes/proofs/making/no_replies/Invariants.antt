use Rattle.std.proofs.Common.{◌≡◌, ◌++◌, drop}
use Rattle.trace_outcomes.specs.Races.{nothing_wanted}
use Rattle.trace_outcomes.proofs.making.no_replies.Given as goal

abbrev pub invariant-loop-asked : goal.invariant-loop-asked
invariant-loop-asked l = l.texts.items ++ nothing_wanted (drop l.asked-index l.steps) ≡ nothing_wanted l.steps
