-- Plain rows given to the memory regions, one after the other.
use Rattle.std.specs.Prelude.{◌≡◌, ℕ, ◌+◌, ◌≤◌, List, [], ◌∷◌, length, Option, None, if◌then◌else◌}
use Rattle.page_state.specs.declared.layout.Region.{Region}
use Rattle.page_state.specs.declared.row.Row.{Row}
use Rattle.page_state.specs.Regions.{is_memory_kind, memory_pages}
use Rattle.page_state.specs.Rows.{advance_row, plain_row}
use Rattle.run_list.specs.declared.run.Run.{Run}
use Rattle.run_list.specs.Counts.{pages_of}
use Rattle.run_list.specs.Runs.{IsCoarsest}
use Rattle.owner_table.specs.Rows.{row_at, rows_set}

-- the rows after a region's frames get the plain row, if it is a region of memory
abbrev pub filled : Region → (ℕ → Option Row) → ℕ → Option Row
filled r rows = if is_memory_kind r.kind then rows_set rows r.pages plain_row else rows

-- the same for each region in turn
abbrev pub filled_all : List Region → (ℕ → Option Row) → ℕ → Option Row
filled_all [] rows = rows
filled_all (r ∷ rs) rows = filled_all rs (filled r rows)

-- room, while rows are still to be given to some regions
pub record IsFilling (runs : List (Run Row)) (room end : ℕ) (left : List Region) : Type 0 where
  pub coarsest : IsCoarsest advance_row runs
  pub outside : (f : ℕ) → end ≤ f → row_at runs f ≡ None
  pub enough : pages_of (row_at runs) end + memory_pages left + 2 ≤ length runs + room
