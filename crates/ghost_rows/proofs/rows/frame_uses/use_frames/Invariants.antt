use Rattle.std.proofs.Common.{◌≡◌, ◌<◌, ◌≤◌, ◌^◌, ℕ, drop, length}
use Rattle.std.specs.Option.{option_or}
use Rattle.page_state.specs.Rows.{advance_row, HasPageBelow}
use Rattle.reference_model.specs.model.Owner.{is_free}
use Rattle.run_list.specs.Runs.{run_map, AreInReach}
use Rattle.ghost_rows.specs.RowsLaid.{used_if}
use Rattle.ghost_rows.proofs.rows.frame_uses.use_frames.Given as goal

abbrev pub invariant-loop-end : goal.invariant-loop-end
invariant-loop-end l = record {
  within : l.end ≤ length l.frames;
  map : (f : ℕ)
      → f < 2 ^ 26
      → run_map advance_row l.rows.runs f
      ≡ option_or (used_if (is_free (drop l.end l.frames) f) l.usage) (run_map advance_row l.fn.rows.runs f);
  reach : AreInReach HasPageBelow l.rows.runs;
}

abbrev pub decreases-loop-end : goal.decreases-loop-end
decreases-loop-end l = l.end
