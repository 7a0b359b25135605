use Rattle.std.proofs.Common.{refl}
use Rattle.world.proofs.World.split.Goals as goal

pub returns-clause-parts : goal.returns-clause-parts
returns-clause-parts g c = refl

pub returns-clause-history : goal.returns-clause-history
returns-clause-history g c = c.args.self.history
