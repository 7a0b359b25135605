use Rattle.trace_outcomes.proofs.Histories.{histories_are_outcomes}
use Rattle.trace_outcomes.proofs.laws.histories_are_outcomes.Goals as goal

pub returns : goal.returns
returns c = histories_are_outcomes
