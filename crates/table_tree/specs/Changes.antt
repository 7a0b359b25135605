-- The effect on the tree of a look at one slot and of a change of it, for tables at any depth.
use Rattle.std.specs.Prelude.{◌≡◌, ℕ, ◌+◌, ◌<◌, ◌≤◌, ◌==◌, if◌then◌else◌, None}
use Rattle.std.specs.declared.boxed.Box.{Box}
use Rattle.page_state.specs.declared.entry.Entry.TheVariants.{Unmapped}
use Rattle.page_state.specs.Counts.{is_one}
use Rattle.table_tree.specs.declared.table.Table.{Table}
use Rattle.table_tree.specs.declared.table.Slot.{Slot}
use Rattle.table_tree.specs.declared.table.Slot.TheVariants.{Word, Child}
use Rattle.table_tree.specs.Meaning.{index_at, frame_of, word_entry, entry_at}
use Rattle.table_tree.specs.Shape.{IsEntryWord, IsShaped}
use Rattle.table_tree.specs.Tight.{IsOneWord, IsTight}
use Rattle.table_tree.specs.Tables.{tables_in, uses_in, table_in}

-- `u` is `t` with another word in slot `i`, which held a word
pub record IsWritten {A : Type 0} (i word : ℕ) (t u : Table A) : Type 0 where
  pub map : (depth q : ℕ)
      → entry_at depth u q
      ≡ (if index_at depth q == i then word_entry depth q word else entry_at depth t q)
  pub tables : (depth : ℕ) → tables_in depth u ≡ tables_in depth t
  pub uses : (depth f : ℕ) → uses_in depth u f ≡ uses_in depth t f
  pub standing : (depth low q : ℕ) → table_in depth u low q ≡ table_in depth t low q
  pub shape : (depth : ℕ) → IsShaped depth t → IsEntryWord depth word → IsShaped depth u
  pub tight : (depth : ℕ) → IsTight depth t → IsTight depth u

-- `u` is `t` with the child `c` in slot `i`, which held a word
pub record IsAttached {A : Type 0} (i : ℕ) (t u c : Table A) : Type 0 where
  pub map : (depth q : ℕ)
      → entry_at (depth + 1) u q
      ≡ (if index_at (depth + 1) q == i then entry_at depth c q else entry_at (depth + 1) t q)
  pub tables : (depth : ℕ) → tables_in (depth + 1) u ≡ tables_in (depth + 1) t + tables_in depth c
  pub uses : (depth f : ℕ) → uses_in (depth + 1) u f ≡ uses_in (depth + 1) t f + uses_in depth c f
  pub standing : (depth low q : ℕ)
      → low ≤ depth
      → table_in (depth + 1) u low q
      ≡ (if index_at (depth + 1) q == i then table_in depth c low q
      else table_in (depth + 1) t low q)
  pub shape : (depth : ℕ) → IsShaped (depth + 1) t → IsShaped depth c → IsShaped (depth + 1) u
  pub child : (depth : ℕ) → IsShaped (depth + 1) u → IsShaped depth c
  pub tight : (depth : ℕ)
      → IsTight (depth + 1) t
      → (IsOneWord depth c → ⊥)
      → IsTight depth c
      → IsTight (depth + 1) u
  pub child_tight : (depth : ℕ) → IsTight (depth + 1) u → IsTight depth c

-- a table of zeros, at any depth
pub record IsNew {A : Type 0} (t : Table A) : Type 0 where
  pub map : (depth q : ℕ) → entry_at depth t q ≡ Unmapped
  pub tables : (depth : ℕ) → tables_in depth t ≡ 1
  pub uses : (depth f : ℕ) → uses_in depth t f ≡ is_one (frame_of t) f
  pub standing : (depth low q : ℕ) → low < depth → table_in depth t low q ≡ None
  pub shape : (depth : ℕ) → IsShaped depth t
  pub tight : (depth : ℕ) → IsTight depth t

-- the table loses the content of slot `i`: its word becomes 0
pub record IsCleared {A : Type 0} (t u : Table A) : Type 0 where
  pub shape : (depth : ℕ) → IsShaped depth t → IsShaped depth u
  pub tight : (depth : ℕ) → IsTight depth t → IsTight depth u

-- the facts that slot `i` gives about its table: `s` is that slot
pub record IsSeen {A : Type 0} (i : ℕ) (t : Table A) (s : Slot A) : Type 0 where
  pub word : (w depth q : ℕ)
      → s ≡ Word w
      → index_at depth q ≡ i
      → entry_at depth t q ≡ word_entry depth q w
  pub word_shape : (w depth : ℕ) → s ≡ Word w → IsShaped depth t → IsEntryWord depth w
  pub no_table : (w depth low q : ℕ)
      → s ≡ Word w
      → index_at depth q ≡ i
      → low < depth
      → table_in depth t low q ≡ None
  pub child : (b : Box (Table A) A) (depth q : ℕ)
      → s ≡ Child b
      → index_at (depth + 1) q ≡ i
      → entry_at (depth + 1) t q ≡ entry_at depth b.value q
  pub child_shape : (b : Box (Table A) A) (depth : ℕ)
      → s ≡ Child b
      → IsShaped (depth + 1) t
      → IsShaped depth b.value
  pub table : (b : Box (Table A) A) (depth low q : ℕ)
      → s ≡ Child b
      → index_at (depth + 1) q ≡ i
      → low ≤ depth
      → table_in (depth + 1) t low q ≡ table_in depth b.value low q
  pub last : (b : Box (Table A) A) → s ≡ Child b → IsShaped 0 t → ⊥
