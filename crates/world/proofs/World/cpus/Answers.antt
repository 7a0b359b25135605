use Rattle.std.proofs.Common.{rules}
use Rattle.world.proofs.World.cpus.Goals as goal

pub returns : goal.returns
returns g c = search rules
