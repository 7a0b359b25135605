use Rattle.std.proofs.Common.{ℕ, ◌<◌}
use Rattle.ghost_spec.specs.States.{contents_in}
use Rattle.ghost_slots.specs.Faults.{CpuFits}
use Rattle.ghost_slots.proofs.cpus.first_cpu.Given as goal

abbrev pub invariant-loop-cpu : goal.invariant-loop-cpu
invariant-loop-cpu l = (d : ℕ) → d < l.cpu → CpuFits (contents_in l.state) d
