use Rattle.std.proofs.Common.{◌≡◌, ◌<◌, ◌^◌, ◌-◌, ℕ, length}
use Rattle.std.specs.Option.{option_or}
use Rattle.page_state.specs.LayoutView.{layout_of}
use Rattle.page_state.specs.Rows.{advance_row, HasPageBelow}
use Rattle.run_list.specs.Runs.{run_map, AreInReach}
use Rattle.ghost_rows.specs.RowsLaid.{first_some, guest_use, guests_in}
use Rattle.ghost_rows.proofs.rows.frame_uses.use_pools.Given as goal

abbrev pub invariant-loop-v : goal.invariant-loop-v
invariant-loop-v l = record {
  map : (f : ℕ)
      → f < 2 ^ 26
      → run_map advance_row l.rows.runs f
      ≡ option_or (first_some l.v (length l.guests - l.v) (guest_use (layout_of l.layout) (guests_in l.guests) f))
      (run_map advance_row l.fn.rows.runs f);
  reach : AreInReach HasPageBelow l.rows.runs;
}
