use Rattle.std.proofs.Common.{rules}
use Rattle.table_tree.proofs.spares.Spares.keep.Goals as goal

pub invariant_of-self : goal.invariant_of-self
invariant_of-self g c = search rules
