use Rattle.std.proofs.Common.{◌≡◌, [], length}
use Rattle.std.specs.Prelude.{slice_get}
use Rattle.hypercalls.specs.Stands.{at_place}
use Rattle.cpu_threads.specs.Rooms.{HaveTo}
use Rattle.cpu_threads.proofs.rooms.fill_cpus.Given as goal

abbrev pub invariant-loop-c : goal.invariant-loop-c
invariant-loop-c l =
    HaveTo l.c (λ j. at_place [] (λ k. k.log.calls) (slice_get l.cpus.items j)) l.rooms.items
    × (length l.rooms.items ≡ length l.initial.rooms.items)
