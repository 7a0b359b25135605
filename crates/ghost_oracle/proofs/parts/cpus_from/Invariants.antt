use Rattle.std.proofs.Common.{◌≡◌, map, take}
use Rattle.part_types.specs.View.{cpu_of}
use Rattle.ghost_spec.specs.Views.{cpu_in}
use Rattle.ghost_oracle.proofs.parts.cpus_from.Given as goal

abbrev pub invariant-loop-cpu : goal.invariant-loop-cpu
invariant-loop-cpu l = map cpu_in l.states.items ≡ map cpu_of (take l.cpu-index l.cpus)
