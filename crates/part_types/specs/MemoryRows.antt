-- Which frames have an owner row.
use Rattle.std.specs.Prelude.{◌≡◌, ℕ, List, is_some}
use Rattle.owner_table.specs.Rows.{row_at}
use Rattle.page_state.specs.declared.row.Row.{Row}
use Rattle.page_state.specs.Regions.{Memory, has_memory}
use Rattle.run_list.specs.declared.run.Run.{Run}

-- the memory frames have a row, and no others
abbrev pub HasMemoryRows : Memory → List (Run Row) → Type 0
HasMemoryRows m rows = (f : ℕ) → is_some (row_at rows f) ≡ has_memory m f
