use Rattle.std.proofs.Common.{◌≡◌, ◌<◌, ◌-◌, ◌||◌, ℕ, drop, slice_index}
use Rattle.page_state.specs.Map.{is_within}
use Rattle.reference_model.specs.model.Owner.{is_free}
use Rattle.ghost_rows.proofs.rows.frame_uses.start_of.Given as goal

abbrev pub invariant-loop-start : goal.invariant-loop-start
invariant-loop-start l = record {
  before : l.start < l.end;
  together : (f : ℕ)
      → is_free (drop l.start l.frames) f
      ≡ (is_within (slice_index l.frames l.start) (l.end - l.start) f || is_free (drop l.end l.frames) f);
}

abbrev pub decreases-loop-start : goal.decreases-loop-start
decreases-loop-start l = l.start
