use Rattle.coarse_trees.proofs.Least.{coarsest_is_canonical, coarsest_is_tree, full_is_tree}
use Rattle.coarse_trees.proofs.coarsest_is_canonical.Goals as goal

pub returns-clause-canonical : goal.returns-clause-canonical
returns-clause-canonical c = coarsest_is_canonical

pub returns-clause-tree : goal.returns-clause-tree
returns-clause-tree c = coarsest_is_tree

pub returns-clause-full : goal.returns-clause-full
returns-clause-full c = full_is_tree
