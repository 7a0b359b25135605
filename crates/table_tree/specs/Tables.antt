-- The tables of a tree: their number, their frames and their places.
use Rattle.std.specs.Prelude.{ℕ, zero, suc, ◌+◌, ◌≤◌, ◌==◌, List, [], ◌∷◌, Option, Some, None, if◌then◌else◌, sum_by}
use Rattle.std.specs.Coded.{le_prop, Π_prop}
use Rattle.descriptor.specs.declared.Frame.{Frame}
use Rattle.page_state.specs.Counts.{is_one}
use Rattle.table_tree.specs.declared.table.Table.{Table}
use Rattle.table_tree.specs.AllBlocks.{gathered}
use Rattle.table_tree.specs.Meaning.{index_at, frame_of, slots_of, slot_at, slot_case}

-- the sum of a function over the children of a table
abbrev pub sum_below : {A : Type 0} → (Table A → ℕ) → Table A → ℕ
sum_below below t = sum_by (slot_case (λ _. 0) below) (slots_of t)

-- the number of tables, the table itself among them
unfoldable pub tables_in : {A : Type 0} → ℕ → Table A → ℕ
tables_in zero t = 1
tables_in (suc depth) t = 1 + sum_below (tables_in depth) t

-- how often a frame is one of a table, the table itself among them
unfoldable pub uses_in : {A : Type 0} → ℕ → Table A → ℕ → ℕ
uses_in zero t frame = is_one (frame_of t) frame
uses_in (suc depth) t frame = is_one (frame_of t) frame + sum_below (λ c. uses_in depth c frame) t

-- the frame of the table with `low` levels below it on a page's path, if there is one
unfoldable pub table_in : {A : Type 0} → ℕ → Table A → ℕ → ℕ → Option ℕ
table_in zero t low page = if low == zero then Some (frame_of t) else None
table_in (suc depth) t low page =
    if low == suc depth then Some (frame_of t)
    else slot_case (λ _. None) (λ c. table_in depth c low page)
    (slot_at t (index_at (suc depth) page))

-- no two tables have one frame
abbrev pub AreDistinct : {A : Type 0} → ℕ → Table A → Type 0
AreDistinct depth t = (frame : ℕ) → uses_in depth t frame ≤ 1

pub AreDistinct-prop : {A : Type 0} (depth : ℕ) (t : Table A) → IsProp (AreDistinct depth t)
AreDistinct-prop depth t = Π_prop (λ f. le_prop)

-- the frames of the tables, the table itself first, then those below its slots, in order
unfoldable pub all_frames_in : {A : Type 0} → ℕ → Table A → List ℕ
all_frames_in zero t = frame_of t ∷ []
all_frames_in (suc depth) t =
    frame_of t ∷ gathered (λ i. slot_case (λ _. []) (all_frames_in depth) (slot_at t i)) 512

-- how often a list of frames has a frame
abbrev pub frame_times : ℕ → List Frame → ℕ
frame_times f frames = sum_by (λ g. is_one g.0 f) frames
