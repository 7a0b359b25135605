use Rattle.std.proofs.Common.{ℕ, ◌<◌}
use Rattle.ghost_spec.specs.States.{contents_in}
use Rattle.ghost_slots.specs.Faults.{SlotFits}
use Rattle.ghost_slots.proofs.slots.first_slot.Given as goal

abbrev pub invariant-loop-slot : goal.invariant-loop-slot
invariant-loop-slot l = (u : ℕ) → u < l.slot → SlotFits (contents_in l.state) u
