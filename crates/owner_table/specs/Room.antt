-- Room for every change of the rows.
use Rattle.std.specs.Prelude.{◌≡◌, ℕ, ◌+◌, ◌^◌, ◌≤◌, List, length, None}
use Rattle.page_state.specs.declared.row.Row.{Row}
use Rattle.run_list.specs.declared.run.Run.{Run}
use Rattle.run_list.specs.Counts.{pages_of}
use Rattle.run_list.specs.Runs.{IsCoarsest}
use Rattle.page_state.specs.Rows.{advance_row}
use Rattle.owner_table.specs.Rows.{row_at}

-- all memory frames lie below this one
unfoldable pub frame_limit : ℕ
frame_limit = 2 ^ 26

-- the list is coarsest, no frame has a row from the end on, and the list can hold as many runs as
-- frames have a row, and two more
pub record HasRoom (runs : List (Run Row)) (room end : ℕ) : Type 0 where
  pub coarsest : IsCoarsest advance_row runs
  pub outside : (f : ℕ) → end ≤ f → row_at runs f ≡ None
  pub enough : pages_of (row_at runs) end + 2 ≤ length runs + room
