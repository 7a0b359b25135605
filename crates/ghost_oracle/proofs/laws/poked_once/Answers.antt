use Rattle.ghost_oracle.proofs.PokedOnce.{beside_once, poked_once}
use Rattle.ghost_oracle.proofs.laws.poked_once.Goals as goal

pub returns : goal.returns
returns g c = record { trees = poked_once; beside = beside_once }
