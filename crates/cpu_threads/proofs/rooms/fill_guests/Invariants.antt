use Rattle.std.proofs.Common.{◌≡◌, [], length}
use Rattle.std.specs.Prelude.{slice_get}
use Rattle.hypercalls.specs.Stands.{at_place}
use Rattle.cpu_threads.specs.Rooms.{HaveTo}
use Rattle.cpu_threads.proofs.rooms.fill_guests.Given as goal

abbrev pub invariant-loop-v : goal.invariant-loop-v
invariant-loop-v g l =
    HaveTo l.v (λ j. at_place [] (λ k. k.log.calls) (slice_get l.guests.items j)) l.rooms.items
    × (length l.rooms.items ≡ length l.initial.rooms.items)
