use Rattle.std.proofs.Common.{◌≡◌, ℕ, drop}
use Rattle.std.specs.Option.{option_or}
use Rattle.page_state.specs.Geometries.{pages_below}
use Rattle.page_state.specs.LayoutView.{layout_of}
use Rattle.page_state.specs.Rows.{advance_row, HasPageBelow}
use Rattle.run_list.specs.Runs.{run_map, AreInReach}
use Rattle.ghost_rows.specs.RowsLaid.{loan_at, low_page}
use Rattle.ghost_rows.proofs.rows.loans.lend_back.Given as goal

abbrev pub invariant-loop-i : goal.invariant-loop-i
invariant-loop-i l = record {
  map : (f : ℕ)
      → run_map advance_row l.rows.runs f
      ≡ option_or
      (loan_at l.number (low_page (pages_below (layout_of l.layout).depth) l.state f (drop l.i l.runs)))
      (run_map advance_row l.fn.rows.runs f);
  reach : AreInReach HasPageBelow l.rows.runs;
}
