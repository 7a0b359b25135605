use Rattle.std.proofs.Common.{rules}
use Rattle.table_tree.specs.View.{spares_of}
use Rattle.table_tree.proofs.tree.Tree.keep_spare.Goals as goal

pub returns-clause-spares : goal.returns-clause-spares
unfolding spares_of
returns-clause-spares g c = search rules
