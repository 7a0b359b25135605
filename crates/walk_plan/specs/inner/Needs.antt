-- The tables that a change needs, as the walk counts them. Depths count the levels below.
use Rattle.std.specs.Prelude.{ℕ, zero, suc, ◌+◌, ◌*◌, nat_lt, if◌then◌else◌}
use Rattle.descriptor.specs.Word.{desc_of}
use Rattle.page_state.specs.declared.entry.Entry.{Entry}
use Rattle.page_state.specs.Entries.{advance, entry_of_word}
use Rattle.page_state.specs.Geometries.{block_pages}
use Rattle.table_tree.specs.declared.table.Table.{Table}
use Rattle.table_tree.specs.declared.table.Slot.{Slot}
use Rattle.table_tree.specs.Meaning.{level_at, slot_at, slot_case}
use Rattle.walk_plan.specs.declared.change.Change.{Change}
use Rattle.walk_plan.specs.Changes.{part, stays_one_word}

-- the sum of the first values of a function
unfoldable pub sum_to : (ℕ → ℕ) → ℕ → ℕ
sum_to f zero = 0
sum_to f (suc n) = sum_to f n + f n

-- the value of `f` for part `i` if the change meets it, else 0
unfoldable pub met : ℕ → Change → (ℕ → Change → ℕ) → ℕ → ℕ
met depth c f i =
    if nat_lt (part depth i c).first (part depth i c).end then f i (part depth i c) else 0

-- the tables that a change needs in a block without a table
unfoldable pub block_need : ℕ → Entry → Change → ℕ
block_need zero x c = 0
block_need (suc depth) x c =
    if stays_one_word (suc depth) x c then 0
    else 1 + sum_to (met depth c (λ i. block_need depth (advance x (i * block_pages depth)))) 512

-- the number of tables that the change needs in part `i` of such a block
unfoldable pub block_parts : ℕ → Entry → ℕ → Change → ℕ
block_parts depth x i c = block_need depth (advance x (i * block_pages depth)) c

-- the number of tables that the change needs in a slot
unfoldable pub slot_need : {A : Type 0} → ℕ → Slot A → Change → ℕ
slot_need zero s c = 0
slot_need (suc depth) s c =
    slot_case (λ w. block_need (suc depth) (entry_of_word (desc_of (level_at (suc depth)) w)) c)
    (λ t. sum_to (met depth c (λ i. slot_need depth (slot_at t i))) 512) s

-- the number of tables that the change needs in slot `i` of a table
unfoldable pub table_parts : {A : Type 0} → ℕ → Table A → ℕ → Change → ℕ
table_parts depth t i c = slot_need depth (slot_at t i) c

-- the number of tables that the change needs in a table
abbrev pub table_need : {A : Type 0} → ℕ → Table A → Change → ℕ
table_need depth t c = sum_to (met depth c (table_parts depth t)) 512
