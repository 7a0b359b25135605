use Rattle.std.proofs.Common.{◌≡◌, ℕ, drop, true, false, Some, None}
use Rattle.page_state.specs.Regions.{find_region, is_memory_region}
use Rattle.page_state.specs.Rows.{advance_row, HasPageBelow}
use Rattle.run_list.specs.Runs.{run_map, AreInReach}
use Rattle.ghost_rows.specs.ListedRows.{told}
use Rattle.ghost_rows.proofs.rows.rows_from_scratch.Given as goal

abbrev pub invariant-loop-i : goal.invariant-loop-i
invariant-loop-i l = record {
  map : (f : ℕ)
      → run_map advance_row l.rows.runs f
      ≡ elim (is_memory_region (find_region (drop l.i l.regions) f))
      [ true ↦ Some (told l.lists f) | false ↦ None ];
  reach : AreInReach HasPageBelow l.rows.runs;
}
