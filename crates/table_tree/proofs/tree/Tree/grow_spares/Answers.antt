use Rattle.std.proofs.Common.{rules}
use Rattle.table_tree.specs.View.{spares_of}
use Rattle.table_tree.proofs.tree.Tree.grow_spares.Goals as goal

pub returns-clause-ok : goal.returns-clause-ok
unfolding spares_of
returns-clause-ok g c = search rules
