-- A poke's outcome is fully determined: no two outcomes are a poke of the same word. So no clause
-- of a poke can be left out.
use Rattle.std.specs.Prelude.{◌≡◌, ℕ, List}
use Rattle.page_state.specs.Trees.{Block}
use Rattle.hypercalls.specs.declared.parts.Parts.{Parts}
use Rattle.ghost_oracle.specs.declared.raw.Which.{Which}
use Rattle.ghost_oracle.specs.Poked.{Beside, IsBeside, IsPokedTree}
use Rattle.ghost_oracle.specs.Seen.{SeenTree}

-- two trees have the same words at all paths, and map the same
pub record HasSameWords (x y : SeenTree) : Type 0 where
  pub words : (path : List ℕ) → x.words path ≡ y.words path
  pub map : (page : ℕ) → x.tree.map page ≡ y.tree.map page

-- the words and the map of each tree
abbrev pub PokedOnce : Type 0
PokedOnce =
    (b : Block) (before x y : Which → SeenTree) (which : Which) (path : List ℕ) (word : ℕ)
    → IsPokedTree b before x which path word
    → IsPokedTree b before y which path word
    → (tree : Which)
    → HasSameWords (x tree) (y tree)

-- all the state beside the trees
abbrev pub BesideOnce : Type 0 → Type 0
BesideOnce A = (p : Parts A) (x y : Beside) → IsBeside p x → IsBeside p y → x ≡ y
