use Rattle.race_outcomes.proofs.Histories.{outcomes_are_runs}
use Rattle.race_outcomes.proofs.laws.outcomes_are_runs.Goals as goal

pub returns : goal.returns
returns c = outcomes_are_runs
