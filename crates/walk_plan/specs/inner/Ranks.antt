-- Which of the tables that a change makes is at a block, and which tables of a tree go.
use Rattle.std.specs.Prelude.{ℕ, zero, suc, ◌+◌, ◌*◌, ◌==◌, ◌&&◌, Bool, nat_lt, Option, Some, None, if◌then◌else◌, List, slice_index_or}
use Rattle.descriptor.specs.Word.{desc_of}
use Rattle.page_state.specs.declared.entry.Entry.{Entry}
use Rattle.page_state.specs.Entries.{advance, entry_of_word}
use Rattle.page_state.specs.EntryTests.{entry_eq}
use Rattle.page_state.specs.Blocks.{fits_word}
use Rattle.page_state.specs.Search.{all_below}
use Rattle.page_state.specs.Geometries.{block_pages}
use Rattle.page_state.specs.Counts.{is_one}
use Rattle.table_tree.specs.declared.table.Table.{Table}
use Rattle.table_tree.specs.declared.table.Slot.{Slot}
use Rattle.table_tree.specs.Meaning.{level_at, index_at, slot_at, slot_case, entry_at, frame_of}
use Rattle.walk_plan.specs.declared.change.Change.{Change}
use Rattle.walk_plan.specs.Changes.{part, stays_one_word, changed_entry}
use Rattle.walk_plan.specs.inner.Needs.{sum_to, met, block_parts, table_parts}

-- the old table, or the one that was made
abbrev pub given_rank : List ℕ → Option ℕ → Option ℕ → Option ℕ
given_rank frames (Some f) rank = Some f
given_rank frames None None = None
given_rank frames None (Some r) = Some (slice_index_or frames r 0)

-- a rank after `n` more tables
abbrev pub later : ℕ → Option ℕ → Option ℕ
later n None = None
later n (Some r) = Some (n + r)

-- the value of `f` for part `i` if the change meets it
abbrev pub met_at : ℕ → Change → (ℕ → Change → Option ℕ) → ℕ → Option ℕ
met_at depth c f i =
    if nat_lt (part depth i c).first (part depth i c).end then f i (part depth i c) else None

-- the number of tables that a change makes in a block before the one with `low` levels below it on
-- a page's path, if it makes that one
unfoldable pub block_rank : ℕ → Entry → Change → ℕ → ℕ → Option ℕ
block_rank zero x c low q = None
block_rank (suc depth) x c low q =
    if stays_one_word (suc depth) x c then None
    else if low == depth then Some 0
    else later 1
    (later (sum_to (met depth c (block_parts depth x)) (index_at depth q))
    (met_at depth c (λ i d. block_rank depth (advance x (i * block_pages depth)) d low q)
    (index_at depth q)))

-- the same for the parts of a block
unfoldable pub parts_rank : ℕ → Entry → Change → ℕ → ℕ → Option ℕ
parts_rank depth x c low q =
    later (sum_to (met depth c (block_parts depth x)) (index_at depth q))
    (met_at depth c (λ i d. block_rank depth (advance x (i * block_pages depth)) d low q)
    (index_at depth q))

-- the same for a slot
unfoldable pub slot_rank : {A : Type 0} → ℕ → Slot A → Change → ℕ → ℕ → Option ℕ
slot_rank zero s c low q = None
slot_rank (suc depth) s c low q = slot_case
    (λ w. block_rank (suc depth) (entry_of_word (desc_of (level_at (suc depth)) w)) c low q)
    (λ b. later (sum_to (met depth c (table_parts depth b)) (index_at depth q))
    (met_at depth c (λ i d. slot_rank depth (slot_at b i) d low q) (index_at depth q)))
    s

-- the same for a table
unfoldable pub table_rank : {A : Type 0} → ℕ → Table A → Change → ℕ → ℕ → Option ℕ
table_rank depth t c low q =
    later (sum_to (met depth c (table_parts depth t)) (index_at depth q))
    (met_at depth c (λ i d. slot_rank depth (slot_at t i) d low q) (index_at depth q))

-- whether a word can encode the entries that a change leaves of the entries `m` of a block
unfoldable pub is_folded : ℕ → (ℕ → Entry) → Change → Bool
is_folded depth m c =
    fits_word depth (changed_entry depth m c 0)
    && all_below (block_pages depth)
    (λ i. entry_eq (changed_entry depth m c i) (advance (changed_entry depth m c 0) i))

-- the number of tables with the frame, at a slot or below it, that go: those whose block a word can
-- encode afterwards
unfoldable pub slot_gone : {A : Type 0} → ℕ → Slot A → Change → ℕ → ℕ
slot_gone zero s c f = 0
slot_gone (suc depth) s c f = slot_case
    (λ _. 0)
    (λ t. sum_to (met depth c (λ i d. slot_gone depth (slot_at t i) d f)) 512 +
    (if is_folded (suc depth) (entry_at depth t) c then is_one (frame_of t) f else 0))
    s

-- the same in slot `i` of a table
unfoldable pub gone_parts : {A : Type 0} → ℕ → Table A → ℕ → ℕ → Change → ℕ
gone_parts depth t f i c = slot_gone depth (slot_at t i) c f

-- the same below a table
abbrev pub table_gone : {A : Type 0} → ℕ → Table A → Change → ℕ → ℕ
table_gone depth t c f = sum_to (met depth c (gone_parts depth t f)) 512
