use Rattle.std.proofs.Common.{refl}
use Rattle.world.proofs.World.join.Goals as goal

pub invariant_of-result : goal.invariant_of-result
invariant_of-result g c = record { history = c.requires.history }

pub returns : goal.returns
returns g c = refl
