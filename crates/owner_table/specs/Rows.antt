-- The row of each frame.
use Rattle.std.specs.Prelude.{◌≡◌, ℕ, ◌≤◌, ◌<◌, ◌↔◌, List, Option, Some, None, IsSome, if◌then◌else◌}
use Rattle.page_state.specs.declared.entry.PageRange.{PageRange}
use Rattle.page_state.specs.declared.row.Row.{Row}
use Rattle.page_state.specs.Regions.{Memory, end_of, has_memory}
use Rattle.page_state.specs.Rows.{advance_row, plain_row}
use Rattle.run_list.specs.declared.run.Run.{Run}
use Rattle.run_list.specs.Runs.{run_map, map_updated}

-- the row of a frame, or none
abbrev pub row_at : List (Run Row) → ℕ → Option Row
row_at runs = run_map advance_row runs

-- each memory frame has the plain row, and no other frame has one
abbrev pub IsOf : Memory → List (Run Row) → Type 0
IsOf m runs = (f : ℕ) → row_at runs f ≡ (if has_memory m f then Some plain_row else None)

-- each frame of a range has a row
abbrev pub HasRows : List (Run Row) → PageRange → Type 0
HasRows runs frames = (f : ℕ) → frames.first.0 ≤ f → f < end_of frames → IsSome (row_at runs f)

-- the same frames have a row before a change and after it
abbrev pub HasSameFrames : List (Run Row) → List (Run Row) → Type 0
HasSameFrames old new = (f : ℕ) → IsSome (row_at new f) ↔ IsSome (row_at old f)

-- rows with those of a range replaced by one row, which advances along the range
abbrev pub rows_set : (ℕ → Option Row) → PageRange → Row → ℕ → Option Row
rows_set rows frames row = map_updated advance_row rows frames.first.0 frames.count (Some row)
