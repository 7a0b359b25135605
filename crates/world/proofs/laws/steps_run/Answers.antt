use Rattle.world.proofs.Runs.{steps_run}
use Rattle.world.proofs.laws.steps_run.Goals as goal

pub returns : goal.returns
returns g c = steps_run
