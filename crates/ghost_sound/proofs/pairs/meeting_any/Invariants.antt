use Rattle.std.proofs.Common.{ℕ, ◌<◌}
use Rattle.std.specs.Prelude.{All}
use Rattle.ghost_sound.specs.inner.Leaves.{runs_in}
use Rattle.ghost_sound.specs.inner.Pairs.{AreOne}
use Rattle.ghost_sound.proofs.pairs.meeting_any.Given as goal

abbrev pub invariant-loop-other : goal.invariant-loop-other
invariant-loop-other l = (u : ℕ) → u < l.other → All (AreOne l.side l.tree l.run u) (runs_in l.state u)
