use Rattle.std.proofs.Common.{◌≡◌, ℕ, ◌+◌, ◌≤◌, take, drop, None}
use Rattle.std.specs.Option.{option_or}
use Rattle.page_state.specs.Geometries.{pages_below}
use Rattle.page_state.specs.LayoutView.{layout_of}
use Rattle.page_state.specs.Rows.{advance_row, HasPageBelow}
use Rattle.run_list.specs.Runs.{run_map, EndBefore}
use Rattle.run_list.specs.View.{IsKept}
use Rattle.ghost_rows.specs.RowsLaid.{loan_at, low_page, last_above}
use Rattle.ghost_rows.proofs.rows.loans.rising_loans.Given as goal

abbrev pub invariant-loop-i : goal.invariant-loop-i
invariant-loop-i l = record {
  map : (f : ℕ)
      → run_map advance_row l.rows.items f
      ≡ option_or
      (loan_at l.number (low_page (pages_below (layout_of l.layout).depth) l.state f (take l.i l.runs))) None;
  high : (f : ℕ) → l.high ≤ f → low_page (pages_below (layout_of l.layout).depth) l.state f (take l.i l.runs) ≡ None;
  rises : last_above (pages_below (layout_of l.layout).depth) l.state 0 l.runs
      ≡ last_above (pages_below (layout_of l.layout).depth) l.state l.high (drop l.i l.runs);
  kept : IsKept advance_row HasPageBelow l.rows.items;
  behind : EndBefore (l.high + 1) l.rows.items;
}
