use Rattle.std.proofs.Common.{◌≡◌, ℕ, ◌<◌}
use Rattle.ghost_spec.specs.Used.{guests_in}
use Rattle.ghost_judge.specs.PartDifferences.{without_map}
use Rattle.ghost_judge.proofs.judge.guest_apart.Given as goal

abbrev pub invariant-loop-v : goal.invariant-loop-v
invariant-loop-v l = (u : ℕ) → u < l.v → without_map (guests_in l.post u) ≡ without_map (guests_in l.spec u)
