use Rattle.std.proofs.Common.{◌≡◌, ◌≤◌, ℕ, [], get_or, length}
use Rattle.std.specs.Prelude.{Some, slice_get}
use Rattle.std.specs.Vec.{vec_capacity}
use Rattle.cpu_threads.proofs.rooms.roomy.Given as goal

abbrev pub invariant-loop-place : goal.invariant-loop-place
invariant-loop-place l =
    (length l.rooms.items ≡ l.place)
    × ((j : ℕ) (v : _)
    → slice_get l.rooms.items j ≡ Some v
    → (v.items ≡ []) × (get_or l.counts.items j 0 ≤ vec_capacity v))
