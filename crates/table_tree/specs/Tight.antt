-- Trees in which no word can encode the map of a table below the root.
use Rattle.std.specs.Prelude.{◌≡◌, ℕ, zero, suc, ◌*◌, ◌/◌, ◌%◌, ◌<◌, true}
use Rattle.std.specs.Coded.{×_prop, Unit-prop, Π_prop}
use Rattle.descriptor.specs.Word.{desc_of}
use Rattle.page_state.specs.declared.entry.Entry.{Entry}
use Rattle.page_state.specs.Blocks.{fits_word}
use Rattle.page_state.specs.Entries.{advance, entry_of_word}
use Rattle.page_state.specs.Geometries.{block_pages}
use Rattle.table_tree.specs.declared.table.Table.{Table}
use Rattle.table_tree.specs.declared.table.Slot.{Slot}
use Rattle.table_tree.specs.declared.table.Slot.TheVariants.{Word}
use Rattle.table_tree.specs.Meaning.{level_at, slot_at}
use Rattle.table_tree.specs.Shape.{MeetsSlot, MeetsSlot-prop}

-- a slot holds a word that gives the first page of its block the entry
abbrev pub HasEntry : {A : Type 0} → ℕ → Entry → Slot A → Type 0
HasEntry depth x s = (w : ℕ) × (s ≡ Word w) × (entry_of_word (desc_of (level_at depth) w) ≡ x)

-- a word one level up can encode the map of the table: its words continue the entry of the first
-- one, and that entry fits a word there
pub record IsOneWord {A : Type 0} (depth : ℕ) (t : Table A) : Type 0 where
  pub entry : Entry
  pub fits : fits_word (suc depth) entry ≡ true
  pub parts : (i : ℕ)
      → i < 512
      → HasEntry depth (advance entry (i * block_pages depth)) (slot_at t i)

-- a word can encode the entries of the block of a depth that holds a page
pub record IsOneWordAt (depth : ℕ) (m : ℕ → Entry) (page : ℕ) : Type 0 where
  pub entry : Entry
  pub fits : fits_word depth entry ≡ true
  pub along : (p : ℕ)
      → p / block_pages depth ≡ page / block_pages depth
      → m p ≡ advance entry (p % block_pages depth)

-- no word one level up can encode the map of any table below this one
unfoldable pub IsTight : {A : Type 0} → ℕ → Table A → Type 0
IsTight zero t = Unit {0}
IsTight (suc depth) t =
    (i : ℕ)
    → i < 512
    → MeetsSlot (λ _. Unit {0}) (λ c. (IsOneWord depth c → ⊥) × IsTight depth c) (slot_at t i)

pub IsTight-prop : {A : Type 0} (n : ℕ) (t : Table A) → IsProp (IsTight n t)
unfolding IsTight
IsTight-prop zero t = Unit-prop
IsTight-prop (suc n) t =
    Π_prop
    (λ i. Π_prop
    (λ _. MeetsSlot-prop (λ _. Unit {0}) (λ c. (IsOneWord n c → ⊥) × IsTight n c)
    (λ _. Unit-prop) (λ c. ×_prop (Π_prop (λ _ a. absurd a)) (IsTight-prop n c))
    (slot_at t i)))
