use Rattle.std.proofs.Common.{ℕ, ◌<◌, get_or, None}
use Rattle.ghost_spec.specs.States.{contents_in}
use Rattle.ghost_slots.specs.Faults.{VcpuOn}
use Rattle.ghost_slots.proofs.slots.first_vcpu.Given as goal

abbrev pub invariant-loop-i : goal.invariant-loop-i
invariant-loop-i l = (j : ℕ) → j < l.i → VcpuOn (contents_in l.state) l.slot j (get_or l.loaded j None)
