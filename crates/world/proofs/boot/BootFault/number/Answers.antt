use Rattle.std.proofs.Common.{rules}
use Rattle.world.proofs.boot.BootFault.number.Goals as goal

pub returns-in-CarveSmall : goal.returns-in-CarveSmall
returns-in-CarveSmall c = search rules
