-- The blocks at which a tree isn't the coarsest tree of its map.
use Rattle.std.specs.Prelude.{◌≡◌, ℕ, ◌≤◌, true, false, is_some, List, Option, All}
use Rattle.coarse_trees.specs.Coarsest.{IsInTree}
use Rattle.page_state.specs.Blocks.{is_one_word}
use Rattle.page_state.specs.Trees.{Block, Tree}
use Rattle.ghost_trees.specs.declared.tree.Table.{Table}
use Rattle.ghost_coarse.specs.declared.misfit.Misfit.{Misfit}
use Rattle.ghost_coarse.specs.declared.misfit.Misfit.TheVariants.{Needless, Lacking}

-- the block of each table is one of a tree of the depth
abbrev pub AreInside : ℕ → List Table → Type 0
AreInside depth ts = All (λ t. IsInTree depth t.block) ts

-- there is a table at the block, which isn't in a tree of the depth
pub record IsOutside (depth : ℕ) (table : Block → Option ℕ) (b : Block) : Type 0 where
  pub there : is_some (table b) ≡ true
  pub outside : IsInTree depth b → ⊥

-- there is a table at the block below the root, and one word could encode the map there
pub record IsNeedless (depth : ℕ) (t : Tree) (b : Block) : Type 0 where
  pub inside : IsInTree depth b
  pub below : b.0 ≤ depth
  pub there : is_some (t.table b) ≡ true
  pub word : is_one_word t.map b ≡ true

-- there is no table at the block below the root, and no word can encode the map there
pub record IsLacking (depth : ℕ) (t : Tree) (b : Block) : Type 0 where
  pub inside : IsInTree depth b
  pub below : b.0 ≤ depth
  pub none : is_some (t.table b) ≡ false
  pub no_word : is_one_word t.map b ≡ false

-- the tree isn't the coarsest tree of its map at the block
abbrev pub IsMisfit : ℕ → Tree → Misfit → Type 0
IsMisfit depth t (Needless b) = IsNeedless depth t b
IsMisfit depth t (Lacking b) = IsLacking depth t b
