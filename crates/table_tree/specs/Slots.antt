-- The values of slots.
use Rattle.std.specs.Prelude.{ℕ, zero, suc, List, [], Option, None}
use Rattle.page_state.specs.declared.entry.Entry.{Entry}
use Rattle.page_state.specs.declared.entry.Entry.TheVariants.{Malformed}
use Rattle.table_tree.specs.declared.table.Slot.{Slot}
use Rattle.table_tree.specs.Meaning.{slot_case, word_entry, entry_at}
use Rattle.table_tree.specs.Shape.{IsEntryWord, IsShaped, MeetsSlot}
use Rattle.table_tree.specs.Tables.{tables_in, uses_in, all_frames_in, table_in}

-- a slot of a table of a tree
unfoldable pub IsSlot : {A : Type 0} → ℕ → Slot A → Type 0
IsSlot zero s = MeetsSlot (IsEntryWord zero) (λ _. ⊥) s
IsSlot (suc depth) s = MeetsSlot (IsEntryWord (suc depth)) (λ c. IsShaped depth c) s

-- the entry that a slot of a table gives a page
unfoldable pub slot_entry : {A : Type 0} → ℕ → Slot A → ℕ → Entry
slot_entry zero s page = slot_case (word_entry zero page) (λ _. Malformed) s
slot_entry (suc depth) s page =
    slot_case (word_entry (suc depth) page) (λ c. entry_at depth c page) s

-- the number of tables below a slot
unfoldable pub slot_tables : {A : Type 0} → ℕ → Slot A → ℕ
slot_tables zero s = 0
slot_tables (suc depth) s = slot_case (λ _. 0) (tables_in depth) s

-- how often a frame is one of a table below a slot
unfoldable pub slot_uses : {A : Type 0} → ℕ → Slot A → ℕ → ℕ
slot_uses zero s frame = 0
slot_uses (suc depth) s frame = slot_case (λ _. 0) (λ c. uses_in depth c frame) s

-- the frames of the tables below a slot
unfoldable pub slot_frames : {A : Type 0} → ℕ → Slot A → List ℕ
slot_frames zero s = []
slot_frames (suc depth) s = slot_case (λ _. []) (all_frames_in depth) s

-- the frame of the table with `low` levels below it that is below a slot on a page's path
unfoldable pub slot_table : {A : Type 0} → ℕ → Slot A → ℕ → ℕ → Option ℕ
slot_table zero s low page = None
slot_table (suc depth) s low page = slot_case (λ _. None) (λ c. table_in depth c low page) s

-- how many tables opening a slot takes
unfoldable pub fresh : {A : Type 0} → Slot A → ℕ
fresh s = slot_case (λ _. 1) (λ _. 0) s
