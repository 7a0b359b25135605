use Rattle.std.proofs.Common.{take}
use Rattle.cpu_threads.specs.Rooms.{Grew, total}
use Rattle.cpu_threads.proofs.rooms.count_home.Given as goal

abbrev pub invariant-loop-cpu : goal.invariant-loop-cpu
invariant-loop-cpu g l = Grew (λ p. total p (take l.cpu l.passes.items)) l.initial.tally l.tally
