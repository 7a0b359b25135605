use Rattle.std.proofs.Common.{◌≡◌, ℕ, ◌-◌, length}
use Rattle.page_state.specs.LayoutView.{layout_of}
use Rattle.page_state.specs.Rows.{advance_row, HasPageBelow}
use Rattle.run_list.specs.Runs.{run_map, AreInReach}
use Rattle.ghost_rows.specs.RowsLaid.{first_some, guest_loan, guests_in}
use Rattle.ghost_rows.proofs.rows.loans.guest_loans.Given as goal

abbrev pub invariant-loop-v : goal.invariant-loop-v
invariant-loop-v l = record {
  map : (f : ℕ)
      → run_map advance_row l.rows.runs f
      ≡ first_some l.v (length l.guests - l.v) (guest_loan (layout_of l.layout) (guests_in l.guests) l.state f);
  reach : AreInReach HasPageBelow l.rows.runs;
}
