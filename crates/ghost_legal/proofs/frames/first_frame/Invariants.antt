use Rattle.std.proofs.Common.{ℕ, ◌-◌, ◌^◌, ◌<◌, ◌≤◌}
use Rattle.ghost_legal.specs.Facts.{IsCondition}
use Rattle.ghost_legal.specs.Frames.{facts_in}
use Rattle.ghost_legal.specs.Places.{AreNear}
use Rattle.ghost_legal.proofs.frames.first_frame.Given as goal

abbrev pub invariant-loop-frame : goal.invariant-loop-frame
invariant-loop-frame l = record {
  low : l.frame ≤ 2 ^ 63;
  near : AreNear l.frame l.places l.state.shared l.held;
  done : (f : ℕ) → f < l.frame → IsCondition f (facts_in l.state l.held f);
}

abbrev pub decreases-loop-frame : goal.decreases-loop-frame
decreases-loop-frame l = 2 ^ 63 - l.frame
