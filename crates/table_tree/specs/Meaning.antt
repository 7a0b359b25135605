-- Slots, and the meaning of a table. Depths count the levels below.
use Rattle.std.specs.Prelude.{ℕ, zero, suc, ◌+◌, ◌*◌, ◌/◌, ◌%◌, ◌^◌, ◌<◌, List, [], ◌∷◌, slice_index_or, Option, Some, None, nat_lt, if◌then◌else◌}
use Rattle.descriptor.specs.Word.{desc_of}
use Rattle.descriptor.specs.declared.Level.{Level}
use Rattle.descriptor.specs.declared.Level.TheVariants.{Zero, One, Two, Three}
use Rattle.page_state.specs.declared.entry.Entry.{Entry}
use Rattle.page_state.specs.declared.entry.Entry.TheVariants.{Malformed}
use Rattle.page_state.specs.Entries.{advance, entry_of_word}
use Rattle.page_state.specs.Geometries.{block_pages}
use Rattle.table_tree.specs.declared.table.Table.{Table}
use Rattle.table_tree.specs.declared.table.Slot.{Slot, out-Slot}
use Rattle.table_tree.specs.declared.table.Slot.TheOpen.{Word, Child}
use Rattle.table_tree.specs.declared.table.Slot.TheVariants.{Word as word_slot}

-- the depths of tables: levels 3 to 0
abbrev pub IsDepth : ℕ → Type 0
IsDepth depth = depth < 4

-- the level of a table
abbrev pub level_at : ℕ → Level
level_at zero = Three
level_at (suc zero) = Two
level_at (suc (suc zero)) = One
level_at (suc (suc (suc depth))) = Zero

-- the index of a page in a table (Arm DDI 0487, D8.2)
abbrev pub index_at : ℕ → ℕ → ℕ
index_at depth page = page / block_pages depth % 512

-- the frame of a table
abbrev pub frame_of : {A : Type 0} → Table A → ℕ
frame_of t = t.frame.0

-- the slots of a table
abbrev pub slots_of : {A : Type 0} → Table A → List (Slot A)
slots_of t = t.slots.items

-- slot `i` of a table
abbrev pub slot_at : {A : Type 0} → Table A → ℕ → Slot A
slot_at t i = slice_index_or t.slots.items i (word_slot 0)

-- the value of a slot: `here` of its word, or `below` of its child
abbrev pub slot_case : {A : Type 0} {R : Type 0} → (ℕ → R) → (Table A → R) → Slot A → R
slot_case {A} here below s = elim (out-Slot A s) [ Word w ↦ here w | Child b ↦ below b.value ]

-- the entry that a word of a table gives a page
abbrev pub word_entry : ℕ → ℕ → ℕ → Entry
word_entry depth page word =
    advance (entry_of_word (desc_of (level_at depth) word)) (page % block_pages depth)

-- the entry that a table gives a page
unfoldable pub entry_at : {A : Type 0} → ℕ → Table A → ℕ → Entry
entry_at zero t page =
    slot_case (word_entry zero page) (λ _. Malformed) (slot_at t (index_at zero page))
entry_at (suc depth) t page =
    slot_case (word_entry (suc depth) page) (λ c. entry_at depth c page)
    (slot_at t (index_at (suc depth) page))

-- the word that leads to a table: the 36 bits of its frame's number in bits 47:12 (Arm DDI 0487,
-- D8.3, table descriptor)
abbrev pub table_word : ℕ → ℕ
table_word frame = frame % 2 ^ 36 * 4096 + 3

-- the word of a slot
abbrev pub slot_word : {A : Type 0} → Slot A → ℕ
slot_word s = slot_case (λ w. w) (λ c. table_word (frame_of c)) s

-- the word at a path of indices; a path goes only through children
unfoldable pub word_at : {A : Type 0} → Table A → List ℕ → Option ℕ
word_at t [] = None
word_at t (i ∷ []) = if nat_lt i 512 then Some (slot_word (slot_at t i)) else None
word_at t (i ∷ j ∷ rest) =
    if nat_lt i 512 then slot_case (λ _. None) (λ c. word_at c (j ∷ rest)) (slot_at t i) else None
