use Rattle.std.proofs.Common.{◌≡◌, map, take}
use Rattle.ghost_oracle.proofs.parts.cpu_rooms.Given as goal

abbrev pub invariant-loop-cpu : goal.invariant-loop-cpu
invariant-loop-cpu l = l.rooms.items ≡ map (λ k. k.log.room) (take l.cpu-index l.cpus)
