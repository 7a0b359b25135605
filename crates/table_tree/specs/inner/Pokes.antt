-- A poke of one table and those below it.
use Rattle.std.specs.Prelude.{◌≡◌, ℕ, ◌+◌, ◌-◌, List, [], ◌∷◌, length, Some}
use Rattle.table_tree.specs.declared.table.Table.{Table}
use Rattle.table_tree.specs.Meaning.{index_at, frame_of, entry_at, word_at, word_entry}
use Rattle.table_tree.specs.Raw.{IsRaw, IsPoked}

-- the page is under the path, from a table with `depth` levels below it on
unfoldable pub Leads : ℕ → ℕ → List ℕ → Type 0
Leads depth page [] = Unit {0}
Leads depth page (i ∷ rest) = (index_at depth page ≡ i) × Leads (depth - 1) page rest

-- `u` is `t` with the word at a path poked
pub record IsPokedTable {A : Type 0} (depth : ℕ) (t u : Table A) (path : List ℕ)
    (word : ℕ) : Type 0 where
  pub shape : IsRaw depth u
  pub frame : frame_of u ≡ frame_of t
  pub words : IsPoked (word_at t) (word_at u) path word
  pub same : word_at t path ≡ Some word → (page : ℕ) → entry_at depth u page ≡ entry_at depth t page
  pub outside : (page : ℕ)
      → (Leads depth page path → ⊥)
      → entry_at depth u page ≡ entry_at depth t page
  pub within : (word_at t path ≡ Some word → ⊥)
      → (page : ℕ)
      → Leads depth page path
      → entry_at depth u page ≡ word_entry (depth + 1 - length path) page word
