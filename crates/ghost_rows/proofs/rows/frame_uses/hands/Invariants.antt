use Rattle.std.proofs.Common.{◌≡◌, ◌<◌, ◌^◌, ◌-◌, ℕ, length}
use Rattle.page_state.specs.Rows.{advance_row, HasPageBelow}
use Rattle.run_list.specs.Runs.{run_map, AreInReach}
use Rattle.ghost_rows.specs.RowsLaid.{first_some, hand_use, cpus_in}
use Rattle.ghost_rows.proofs.rows.frame_uses.hands.Given as goal

abbrev pub invariant-loop-i : goal.invariant-loop-i
invariant-loop-i l = record {
  map : (f : ℕ)
      → f < 2 ^ 26
      → run_map advance_row l.rows.runs f ≡ first_some l.i (length l.cpus - l.i) (hand_use (cpus_in l.cpus) f);
  reach : AreInReach HasPageBelow l.rows.runs;
}
