use Rattle.std.proofs.Common.{◌≡◌, ℕ, ◌<◌}
use Rattle.ghost_spec.specs.Used.{vms_in}
use Rattle.ghost_judge.proofs.judge.slot_apart.Given as goal

abbrev pub invariant-loop-v : goal.invariant-loop-v
invariant-loop-v l = (u : ℕ) → u < l.v → (vms_in l.post).slot u ≡ (vms_in l.spec).slot u
