use Rattle.std.proofs.Common.{rules}
use Rattle.table_tree.specs.View.{spares_of}
use Rattle.table_tree.proofs.tree.Tree.spares.Goals as goal

pub returns : goal.returns
unfolding spares_of
returns g c = search rules
