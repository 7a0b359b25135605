use Rattle.std.proofs.Common.{◌≡◌, ◌≤◌, length, take}
use Rattle.std.specs.Vec.{vec_capacity, vec_len}
use Rattle.cpu_threads.proofs.rooms.fill.Given as goal

abbrev pub invariant-loop-i : goal.invariant-loop-i
invariant-loop-i l = (l.room.items ≡ take l.i l.calls) × (vec_len l.room ≡ l.i) × (length l.calls ≤ vec_capacity l.room)
