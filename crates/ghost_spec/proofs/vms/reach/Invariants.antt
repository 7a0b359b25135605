use Rattle.std.proofs.Common.{◌≡◌, ℕ, ◌+◌, ◌-◌, None, length, get_or}
use Rattle.ghost_spec.proofs.vms.reach.Given as goal

abbrev pub invariant-loop-loaded : goal.invariant-loop-loaded
invariant-loop-loaded l = (i : ℕ) → get_or l.loaded.items i None ≡ get_or l.fn.loaded.items i None

abbrev pub decreases-loop-loaded : goal.decreases-loop-loaded
decreases-loop-loaded l = l.vcpu + 1 - length l.loaded.items
