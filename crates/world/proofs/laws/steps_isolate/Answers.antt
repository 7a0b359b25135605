use Rattle.world.proofs.Runs.{steps_isolate}
use Rattle.world.proofs.laws.steps_isolate.Goals as goal

pub returns : goal.returns
returns g c = steps_isolate
