use Rattle.std.proofs.Common.{◌≡◌, map, take}
use Rattle.world.proofs.histories.cpu_logs.Given as goal

abbrev pub invariant-loop-cpu : goal.invariant-loop-cpu
invariant-loop-cpu l = map (λ calls. calls.items) l.logs.items ≡ map (λ k. k.log.calls) (take l.cpu-index l.cpus)
