use Rattle.std.proofs.Common.{ℕ, ◌<◌}
use Rattle.std.specs.Prelude.{All}
use Rattle.ghost_sound.specs.inner.Leaves.{runs_in}
use Rattle.ghost_sound.specs.inner.Share.{HasNot}
use Rattle.ghost_sound.proofs.share.shared_to.Given as goal

abbrev pub invariant-loop-tree : goal.invariant-loop-tree
invariant-loop-tree l = (u : ℕ) → u < l.tree → All (HasNot l.frame) (runs_in l.state u)
