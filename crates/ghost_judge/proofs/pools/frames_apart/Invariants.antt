use Rattle.std.proofs.Common.{◌≡◌, ℕ, ◌<◌}
use Rattle.ghost_judge.specs.PartDifferences.{frame_at}
use Rattle.ghost_judge.proofs.pools.frames_apart.Given as goal

abbrev pub invariant-loop-at : goal.invariant-loop-at
invariant-loop-at l = (u : ℕ) → u < l.at → frame_at l.post u ≡ frame_at l.spec u
