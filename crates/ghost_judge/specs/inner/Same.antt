-- The comparisons of tests of single parts.
use Rattle.std.specs.Prelude.{◌≡◌, ℕ, ◌+◌, ◌<◌, ◌≤◌, Bool, not, List, [], ◌∷◌, Option, Some, None, drop, filter, get_or, length}
use Rattle.page_state.specs.declared.row.Row.{Row}
use Rattle.page_state.specs.Rows.{plain_row}
use Rattle.run_list.specs.declared.run.Run.{Run}
use Rattle.run_list.specs.OwnerRows.{row_eq}
use Rattle.reference_model.specs.model.State.{Slot}
use Rattle.ghost_trees.specs.declared.tree.Table.{Table}
use Rattle.ghost_trees.specs.Trees.{table_of}

-- both lists have the same frame at the block of a table
abbrev pub HasSameFrame : List Table → List Table → Table → Type 0
HasSameFrame a b t = table_of a t.block ≡ table_of b t.block

-- the CPU that has each vCPU loaded; None past the list's end
abbrev pub loads : List (Option ℕ) → ℕ → Option ℕ
loads xs = λ i. get_or xs i None

-- a slot with nothing loaded, and else the same
abbrev pub unloaded : Slot → Slot
unloaded s = record s { loaded = λ i. None }

-- the run's row isn't the plain one
abbrev pub is_marked : Run Row → Bool
is_marked r = not (row_eq r.value plain_row)

-- the runs of the other rows
abbrev pub marked : List (Run Row) → List (Run Row)
marked rs = filter is_marked rs

-- the first of them from a place on is at another
pub record IsNextMarked (rs : List (Run Row)) (from at : ℕ) : Type 0 where
  pub behind : from ≤ at
  pub within : at < length rs
  pub rest : (d : Run Row) → marked (drop from rs) ≡ get_or rs at d ∷ marked (drop (at + 1) rs)

-- the first frame of a list's first run, if it has a run
abbrev pub IsBegin : List (Run Row) → Option ℕ → Type 0
IsBegin [] o = o ≡ None
IsBegin (r ∷ rs) o = o ≡ Some r.pages.first.0
