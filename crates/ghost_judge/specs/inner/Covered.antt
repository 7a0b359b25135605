-- The least block at which two trees' tables differ, from lists of tables.
use Rattle.std.specs.Prelude.{◌≡◌, ◌⊎◌, ℕ, ◌<◌, Bool, false, true, ◌&&◌, ◌||◌, ◌==◌, nat_lt, List, Option, Some, None, IfSome, get_or}
use Rattle.page_state.specs.Trees.{Block}
use Rattle.ghost_trees.specs.declared.tree.Table.{Table}

-- of blocks that differ, one of a lesser depth comes first, and of the same depth the lesser one
abbrev pub precedes : Block → Block → Bool
precedes a b = nat_lt a.0 b.0 || a.0 == b.0 && nat_lt a.1 b.1

-- a block comes before the one that was found, if there is one
abbrev pub comes_first : Block → Option Block → Bool
comes_first a None = true
comes_first a (Some b) = precedes a b

-- tables at a block are the same, or a block that comes no later was found
abbrev pub IsCovered : (Block → Option ℕ) → (Block → Option ℕ) → Option Block → Block → Type 0
IsCovered f g found b = (f b ≡ g b) ⊎ (comes_first b found ≡ false)

-- so are the first tables of a list
abbrev pub AreCovered : (Block → Option ℕ) → (Block → Option ℕ) → Option Block → List Table → ℕ
    → Type 0
AreCovered f g found ts n = (k : ℕ) (t : Table) → k < n → IsCovered f g found (get_or ts k t).block

-- the tables at the block that was found differ
abbrev pub IsUnlike : (Block → Option ℕ) → (Block → Option ℕ) → Option Block → Type 0
IsUnlike f g found = IfSome found (λ b. f b ≡ g b → ⊥)

-- what was covered by an earlier block is by a later one
abbrev pub CoversMore : Option Block → Option Block → Type 0
CoversMore old new = (b : Block) → comes_first b old ≡ false → comes_first b new ≡ false
