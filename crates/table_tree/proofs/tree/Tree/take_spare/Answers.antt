use Rattle.std.proofs.Common.{rules}
use Rattle.table_tree.proofs.tree.Tree.take_spare.Goals as goal

pub returns-clause-frame : goal.returns-clause-frame
returns-clause-frame g c = search rules
