use Rattle.std.proofs.Common.{◌≡◌, ◌<◌, ℕ, [], drop, slice_index}
use Rattle.world.specs.Merges.{log_at}
use Rattle.world.proofs.merge.are_given.Given as goal

abbrev pub invariant-loop-i : goal.invariant-loop-i
invariant-loop-i l = (k : ℕ) → k < l.i → drop (slice_index l.places k) (log_at l.logs k) ≡ []
