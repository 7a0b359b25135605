use Rattle.race_outcomes.proofs.Inserted.{stored_runs_are_outcomes}
use Rattle.race_outcomes.proofs.laws.stored_runs_are_outcomes.Goals as goal

pub returns : goal.returns
returns c = stored_runs_are_outcomes
