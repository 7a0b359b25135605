use Rattle.std.proofs.Common.{rules}
use Rattle.world.proofs.merge.MergeFault.number.Goals as goal

pub returns-in-NoOrder : goal.returns-in-NoOrder
returns-in-NoOrder c = search rules
