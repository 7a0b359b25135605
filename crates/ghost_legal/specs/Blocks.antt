-- The blocks of the tables of a list.
use Rattle.std.specs.Prelude.{◌≡◌, ℕ, List, [], ◌∷◌, All, None}
use Rattle.coarse_trees.specs.Coarsest.{IsInTree}
use Rattle.ghost_trees.specs.declared.tree.Table.{Table}
use Rattle.ghost_trees.specs.Trees.{table_of}
use Rattle.ghost_spec.specs.declared.lists.GhostLists.{GhostLists}
use Rattle.ghost_spec.specs.declared.parts.GhostGuest.{GhostGuest}

-- each table's block is one of the tree, and no later table has it
abbrev pub HasOwnBlocks : ℕ → List Table → Type 0
HasOwnBlocks depth [] = Unit {0}
HasOwnBlocks depth (t ∷ ts) =
    IsInTree depth t.block × (table_of ts t.block ≡ None) × HasOwnBlocks depth ts

-- each guest's tables have
abbrev pub HaveOwnBlocks : ℕ → List GhostGuest → Type 0
HaveOwnBlocks depth [] = Unit {0}
HaveOwnBlocks depth (g ∷ gs) = HasOwnBlocks depth g.tree.tables.items × HaveOwnBlocks depth gs

-- the tables of all trees have
pub record TreesHaveOwnBlocks (depth : ℕ) (g : GhostLists) : Type 0 where
  pub host : HasOwnBlocks depth g.shared.host.tables.items
  pub hyp : HasOwnBlocks depth g.shared.hyp.tables.items
  pub guests : HaveOwnBlocks depth g.guests.items

-- no table has the block of an earlier one
abbrev pub HasFirstBlocks : List Table → Type 0
HasFirstBlocks [] = Unit {0}
HasFirstBlocks (t ∷ ts) = (table_of ts t.block ≡ None) × HasFirstBlocks ts

-- so it is in each tree
pub record TreesHaveFirstBlocks (g : GhostLists) : Type 0 where
  pub host : HasFirstBlocks g.shared.host.tables.items
  pub hyp : HasFirstBlocks g.shared.hyp.tables.items
  pub guests : All (λ x. HasFirstBlocks x.tree.tables.items) g.guests.items
