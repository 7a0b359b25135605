use Rattle.std.proofs.Common.{ℕ, ◌<◌}
use Rattle.std.specs.Prelude.{All}
use Rattle.ghost_sound.specs.inner.Leaves.{runs_in}
use Rattle.ghost_sound.specs.inner.Pairs.{MeetsNone}
use Rattle.ghost_sound.proofs.pairs.twice_found.Given as goal

abbrev pub invariant-loop-tree : goal.invariant-loop-tree
invariant-loop-tree l = (t : ℕ) → t < l.tree → All (MeetsNone l.side l.state t) (runs_in l.state t)
