-- The changes of a list of rows: a range that is set, and rows that are found again.
use Rattle.std.specs.Prelude.{◌≡◌, ℕ, Bool, true, false, ◌&&◌, List, Option}
use Rattle.page_state.specs.declared.entry.PageRange.{PageRange}
use Rattle.page_state.specs.declared.layout.Layout.{Layout}
use Rattle.page_state.specs.declared.row.Row.{Row}
use Rattle.page_state.specs.Layouts.{is_memory}
use Rattle.page_state.specs.LayoutView.{layout_of}
use Rattle.page_state.specs.Map.{is_within}
use Rattle.page_state.specs.Regions.{is_in_range}
use Rattle.page_state.specs.Rows.{advance_row}
use Rattle.reference_model.specs.model.State.{Guest, Cpu}
use Rattle.run_list.specs.declared.run.Run.{Run}
use Rattle.run_list.specs.Runs.{map_updated, run_map}
use Rattle.ghost_spec.specs.declared.shared.Shared.{Shared}
use Rattle.ghost_spec.specs.RowsFound.{row_found, rows_found}
use Rattle.ghost_spec.specs.Views.{row_in, shared_in_lists}

-- the frames of a range have a row, which advances along it, or none; the others stay
abbrev pub IsRangeSet : List (Run Row) → List (Run Row) → PageRange → Option Row → Type 0
IsRangeSet old new range row =
    run_map advance_row new
    ≡ map_updated advance_row (run_map advance_row old) range.first.0 range.count row

-- the range of one frame
abbrev pub one_frame : ℕ → PageRange
one_frame f = record { first = record { 0 = f }; count = 1 }

-- one frame has a row, and the others theirs
abbrev pub IsFrameSet : List (Run Row) → List (Run Row) → ℕ → Row → Type 0
IsFrameSet old new frame row =
    (f : ℕ)
    → row_in new f ≡ elim (is_in_range (one_frame frame) f) [ true ↦ row | false ↦ row_in old f ]

module _ (l : Layout) (old new : Shared) where
  -- the rows of the frames that a test picks are found again, and the others stay
  abbrev pub AreFoundWhere : (ℕ → Bool) → Option ℕ → Guest → ℕ → Cpu → Type 0
  AreFoundWhere picks slot g cpu k =
      (f : ℕ)
      → row_in new.rows.runs f
      ≡ elim (picks f) [
        | true ↦ row_found (layout_of l) (shared_in_lists old) slot g f cpu k
        | false ↦ row_in old.rows.runs f
      ]

  -- the row of one frame is found again, if it is a memory frame
  abbrev pub IsFoundAt : ℕ → Option ℕ → Guest → ℕ → Cpu → Type 0
  IsFoundAt frame slot g cpu k =
      (f : ℕ)
      → row_in new.rows.runs f
      ≡ elim (is_memory (layout_of l) f && is_within frame 1 f) [
        | true ↦ row_found (layout_of l) (shared_in_lists old) slot g frame cpu k
        | false ↦ row_in old.rows.runs f
      ]

  -- the rows of the memory frames of a range are found again
  abbrev pub AreFoundIn : PageRange → Option ℕ → Guest → ℕ → Cpu → Type 0
  AreFoundIn range slot g cpu k =
      AreFoundWhere (λ f. is_memory (layout_of l) f && is_in_range range f) slot g cpu k

  -- the rows of the touched memory frames are found again, and nothing else of the part changes
  abbrev pub AreFoundAfter : Option PageRange → Option ℕ → Guest → ℕ → Cpu → Type 0
  AreFoundAfter touched slot g cpu k =
      shared_in_lists new ≡ rows_found (layout_of l) touched slot g cpu k (shared_in_lists old)
