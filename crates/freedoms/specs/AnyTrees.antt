-- Legal, whatever the policy of tables: as Legal, but a tree need not be the coarsest of its map.
-- Only a guest with nothing mapped has no table but its root.
use Rattle.std.specs.Prelude.{◌≡◌, ℕ, ◌+◌, Some}
use Rattle.page_state.specs.declared.entry.Entry.TheVariants.{Unmapped}
use Rattle.coarse_trees.specs.Coarsest.{IsInTree}
use Rattle.page_state.specs.Layouts.{Layout}
use Rattle.page_state.specs.Trees.{Block, Tree}
use Rattle.reference_model.specs.help.Conditions.{Condition, IsOfLayout, MapsFit, HeldFit, RowsFit, GuestsFit, SlotsFit}
use Rattle.reference_model.specs.claims.Sound.{tree_at}
use Rattle.reference_model.specs.model.State.{Contents}

-- tables are only at blocks of the tree
abbrev pub IsInside : ℕ → Tree → Type 0
IsInside depth t = (b : Block) (f : ℕ) → t.table b ≡ Some f → IsInTree depth b

-- each frame is in one condition, which determines its entries in the maps, its holders and its row
pub record AreFramesLegal (l : Layout) (s : Contents) : Type 0 where
  pub condition : ℕ → Condition
  pub of_layout : IsOfLayout l condition
  pub maps : MapsFit s condition
  pub held : HeldFit l s condition
  pub rows : RowsFit l s condition

-- the state is legal, except that its trees' tables need only be at blocks of the trees
pub record IsLegalButForTrees (l : Layout) (s : Contents) : Type 0 where
  pub frames : AreFramesLegal l s
  pub inside : (t : ℕ) → IsInside l.depth (tree_at s t)
  pub guest_parts : GuestsFit l s
  pub slots : SlotsFit s

-- a guest that has nothing mapped has no table but its root
abbrev pub HasRootAlone : ℕ → Tree → Type 0
HasRootAlone depth t =
    ((g : ℕ) → t.map g ≡ Unmapped) → (b : Block) (f : ℕ) → t.table b ≡ Some f → b ≡ (depth + 1, 0)

-- legal in any trees: legal apart from the tables that trees need, and a guest that loses its last
-- page gives its tables back
pub record LegalInAnyTrees (l : Layout) (s : Contents) : Type 0 where
  pub state : IsLegalButForTrees l s
  pub emptied : (v : ℕ) → HasRootAlone l.depth (s.guest v).tree
