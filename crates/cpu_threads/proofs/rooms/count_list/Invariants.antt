use Rattle.std.proofs.Common.{length, take}
use Rattle.std.specs.Prelude.{filter}
use Rattle.cpu_threads.specs.Rooms.{Grew}
use Rattle.cpu_threads.proofs.rooms.count_list.Given as goal

abbrev pub invariant-loop-i : goal.invariant-loop-i
invariant-loop-i l = Grew (λ p. length (filter p (take l.i l.calls))) l.initial.tally l.tally
