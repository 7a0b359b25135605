use Rattle.world.proofs.Runs.{steps_right}
use Rattle.world.proofs.laws.steps_right.Goals as goal

pub returns : goal.returns
returns g c = steps_right
