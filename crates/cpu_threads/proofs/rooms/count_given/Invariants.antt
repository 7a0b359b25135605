use Rattle.std.proofs.Common.{take}
use Rattle.cpu_threads.specs.Rooms.{Grew, total_given}
use Rattle.cpu_threads.proofs.rooms.count_given.Given as goal

abbrev pub invariant-loop-j : goal.invariant-loop-j
invariant-loop-j g l = Grew (λ p. total_given p (take l.j l.given.items)) l.initial.tally l.tally
