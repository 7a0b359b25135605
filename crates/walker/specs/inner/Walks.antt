-- A change in progress, and its result. Depths count the levels below.
use Rattle.std.specs.Prelude.{◌≡◌, ◌≢◌, ℕ, ◌+◌, ◌*◌, ◌<◌, ◌≤◌, min, List, Option, take, drop, length}
use Rattle.page_state.specs.Counts.{frame_count}
use Rattle.page_state.specs.Geometries.{block_pages}
use Rattle.table_tree.specs.declared.table.Table.{Table}
use Rattle.table_tree.specs.Meaning.{index_at, slot_at, frame_of, entry_at}
use Rattle.table_tree.specs.Shape.{IsShaped}
use Rattle.table_tree.specs.Tables.{tables_in, uses_in, table_in}
use Rattle.table_tree.specs.Tight.{IsOneWordAt, IsTight}
use Rattle.walk_plan.specs.declared.change.Change.{Change}
use Rattle.walk_plan.specs.Changes.{changed_entry, pages_of}
use Rattle.walk_plan.specs.inner.Needs.{slot_need, table_need}
use Rattle.walk_plan.specs.inner.Ranks.{given_rank, slot_rank, table_rank, slot_gone, table_gone}

-- the part of a change before a page
abbrev pub upto : Change → ℕ → Change
upto c n = record { first = c.first; end = min c.end n; entry = c.entry }

-- at a page, the table with `low` levels below it is the one that was there or that the change
-- made, unless one word encodes its block
abbrev pub IsTableAt : {A : Type 0} → ℕ → Table A → Table A → List ℕ → ℕ → ℕ → Option ℕ → Type 0
IsTableAt d t u fs low q rank =
    (IsOneWordAt (low + 1) (entry_at d u) q → ⊥)
    → table_in d u low q ≡ given_rank fs (table_in d t low q) rank

-- table `u` is `t` after a change, which took the tables that it needs from the front of the stock
-- `before` and left `after`
pub record IsTableChanged {A : Type 0} (d : ℕ) (t u : Table A) (c : Change)
    (before after : List ℕ) : Type 0 where
  pub frame : frame_of u ≡ frame_of t
  pub shape : IsShaped d u
  pub tight : IsTight d u
  pub map : (q : ℕ) → entry_at d u q ≡ changed_entry (d + 1) (entry_at d t) c q
  pub kept : (low q : ℕ) → low < d → IsTableAt d t u before low q (table_rank d t c low q)
  pub spare : after ≡ drop (table_need d t c) before
  pub uses : (f : ℕ)
      → uses_in d u f + table_gone d t c f
      ≡ uses_in d t f + frame_count f (take (table_need d t c) before)

-- a change of a whole table has looked at `after` slots in all, and at `before` when it began
abbrev pub IsWholeLook : ℕ → Change → ℕ → ℕ → Type 0
IsWholeLook d c before after =
    c.first ≡ 0 → c.end ≡ block_pages (d + 1) → 2 * after + 1536 ≤ 2 * before + 5 * pages_of c

-- the tables that went joined the stock `before`, which is now `after`
pub record IsTableFreed {A : Type 0} (d : ℕ) (t u : Table A) (c : Change)
    (before after : List ℕ) : Type 0 where
  pub frames : (f : ℕ) → frame_count f after ≡ table_gone d t c f + frame_count f before
  pub tables : tables_in d u + length after ≡ tables_in d t + table_need d t c + length before

-- the same of a change in slot `i`; the other slots stay
pub record IsSlotChanged {A : Type 0} (d i : ℕ) (t u : Table A) (c : Change)
    (before after : List ℕ) : Type 0 where
  pub frame : frame_of u ≡ frame_of t
  pub shape : IsShaped d u
  pub tight : IsTight d u
  pub slots_elsewhere : (j : ℕ) → j ≢ i → slot_at u j ≡ slot_at t j
  pub map : (q : ℕ) → index_at d q ≡ i → entry_at d u q ≡ changed_entry d (entry_at d t) c q
  pub map_elsewhere : (q : ℕ) → index_at d q ≢ i → entry_at d u q ≡ entry_at d t q
  pub kept : (low q : ℕ)
      → low < d
      → index_at d q ≡ i
      → IsTableAt d t u before low q (slot_rank d (slot_at t i) c low q)
  pub tables_elsewhere : (low q : ℕ)
      → low < d
      → index_at d q ≢ i
      → table_in d u low q ≡ table_in d t low q
  pub spare : after ≡ drop (slot_need d (slot_at t i) c) before
  pub uses : (f : ℕ)
      → uses_in d u f + slot_gone d (slot_at t i) c f
      ≡ uses_in d t f + frame_count f (take (slot_need d (slot_at t i) c) before)

pub record IsSlotFreed {A : Type 0} (d i : ℕ) (t u : Table A) (c : Change)
    (before after : List ℕ) : Type 0 where
  pub frames : (f : ℕ) → frame_count f after ≡ slot_gone d (slot_at t i) c f + frame_count f before
  pub tables : tables_in d u + length after
      ≡ tables_in d t + slot_need d (slot_at t i) c + length before
