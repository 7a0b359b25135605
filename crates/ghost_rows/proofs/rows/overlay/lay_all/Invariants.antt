use Rattle.std.proofs.Common.{◌≡◌, ℕ, drop}
use Rattle.std.specs.Option.{option_or}
use Rattle.page_state.specs.Rows.{advance_row, HasPageBelow}
use Rattle.run_list.specs.Runs.{run_map, AreInReach}
use Rattle.ghost_rows.proofs.rows.overlay.lay_all.Given as goal

abbrev pub invariant-loop-i : goal.invariant-loop-i
invariant-loop-i l = record {
  map : (f : ℕ)
      → run_map advance_row l.rows.runs f
      ≡ option_or (run_map advance_row (drop l.i l.runs) f) (run_map advance_row l.fn.rows.runs f);
  reach : AreInReach HasPageBelow l.rows.runs;
}
