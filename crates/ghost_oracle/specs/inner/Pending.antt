-- The run that a walk is still extending, and the words that would extend it.
use Rattle.std.specs.Prelude.{◌≡◌, ℕ, ◌+◌, ◌-◌, ◌*◌, ◌^◌, ◌<◌, ◌≤◌, IsTrue, List}
use Rattle.page_state.specs.declared.entry.Run.{Run}
use Rattle.page_state.specs.Entries.{advance}
use Rattle.page_state.specs.Geometries.{block_pages}
use Rattle.page_state.specs.Map.{Map}
use Rattle.page_state.specs.Runs.{map_of}
use Rattle.table_tree.specs.Ahead.{gives}
use Rattle.table_tree.specs.Meaning.{IsDepth}
use Rattle.table_tree.specs.Shape.{HasSmallFrame}
use Rattle.ghost_oracle.specs.declared.pending.Pending.{Pending}
use Rattle.ghost_oracle.specs.inner.Walking.{AreRunsTo, GoesOn}

-- each of the next `left` words that would extend the run gives its block the run's entry, advanced
-- to that block
pub record ComesNext (depth end left : ℕ) (h : Pending) : Type 0 where
  pub ahead : (k : ℕ)
      → k < left
      → gives depth (h.next + k * h.step) ≡ advance h.entry (end + k * block_pages depth - h.first)
  pub room : h.next + left * h.step < 2 ^ 64

-- the pending run is what the map says up to page `end`, with `left` blocks of the table after it
pub record IsPending (m : Map) (depth end left : ℕ) (h : Pending) : Type 0 where
  pub order : h.first ≤ end
  pub given : (p : ℕ) → h.first ≤ p → p < end → m p ≡ advance h.entry (p - h.first)
  pub small : HasSmallFrame h.entry
  pub next : IsTrue h.goes_on → ComesNext depth end left h

-- the map gives each page of a block the value that the block's word gives it
abbrev pub IsGiven : Map → ℕ → ℕ → ℕ → Type 0
IsGiven m depth first word =
    (p : ℕ)
    → first ≤ p
    → p < first + block_pages depth
    → m p ≡ advance (gives depth word) (p - first)

-- with another next word
abbrev pub pending_with : Pending → ℕ → Pending
pending_with h next = record h { next = next }

-- a list and its pending run can take the word of a block of `size` pages, whose first page is
-- `end`
pub record CanTake (depth size end : ℕ) (rs : List Run) (h : Pending) : Type 0 where
  pub depth_in : IsDepth depth
  pub pages : size ≡ block_pages depth
  pub place : end + size ≤ 2 ^ 36
  pub order : h.first ≤ end
  pub small : HasSmallFrame h.entry
  pub before : AreRunsTo h.first rs

-- the pages of a pending run were appended to a list, up to page `end`
abbrev pub IsPut : Pending → ℕ → List Run → List Run → Type 0
IsPut h end old new =
    GoesOn (λ page. advance h.entry (page - h.first)) h.first end (map_of old) (map_of new)

-- the pending run agrees with any map on a block, if the word gives the block the value that the
-- map has
abbrev pub BeginsWith : ℕ → ℕ → ℕ → ℕ → Pending → Type 0
BeginsWith depth pages end word h =
    (m : Map) (left : ℕ)
    → left < 512
    → IsGiven m depth end word
    → IsPending m depth (end + pages) left h

-- if the old run agrees with a map up to a block, and the word gives the block the map's value, the
-- new run agrees with the map to the end of the block
abbrev pub TakesWord : ℕ → ℕ → ℕ → ℕ → Pending → Pending → Type 0
TakesWord depth pages end word old new =
    (m : Map) (left : ℕ)
    → left < 512
    → IsPending m depth end (left + 1) old
    → IsGiven m depth end word
    → IsPending m depth (end + pages) left new
