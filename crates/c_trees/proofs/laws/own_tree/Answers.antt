use Rattle.c_trees.proofs.Own.{own_tree}
use Rattle.c_trees.proofs.laws.own_tree.Goals as goal

pub returns : goal.returns
returns c = own_tree
