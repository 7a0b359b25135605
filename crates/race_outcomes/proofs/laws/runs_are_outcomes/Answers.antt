use Rattle.race_outcomes.proofs.Runs.{runs_are_outcomes}
use Rattle.race_outcomes.proofs.laws.runs_are_outcomes.Goals as goal

pub returns : goal.returns
returns c = runs_are_outcomes
