use Rattle.std.proofs.Common.{◌≡◌, ℕ, ◌<◌}
use Rattle.ghost_judge.specs.inner.Found.{guest_map}
use Rattle.ghost_judge.proofs.audit.in_guests.Given as goal

abbrev pub invariant-loop-v : goal.invariant-loop-v
invariant-loop-v l = (u : ℕ) → u < l.v → guest_map l.fn.kept u ≡ guest_map l.fn.walked u
