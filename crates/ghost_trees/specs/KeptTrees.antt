-- The invariant of a tree on lists.
use Rattle.page_state.specs.Runs.{IsCoarsest}
use Rattle.ghost_trees.specs.declared.tree.Tree.{Tree}
use Rattle.ghost_trees.specs.Small.{AreSmall}

-- a tree's runs are small, and the coarsest
pub record IsKeptTree (t : Tree) : Type 0 where
  pub small : AreSmall t.runs.items
  pub coarsest : IsCoarsest t.runs.items
