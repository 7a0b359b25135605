use Rattle.std.proofs.Common.{◌≡◌, map, take}
use Rattle.ghost_spec.specs.States.{slot_in}
use Rattle.ghost_spec.proofs.parts.copied_slots.Given as goal

abbrev pub invariant-loop-slot : goal.invariant-loop-slot
invariant-loop-slot l = map slot_in l.copies.items ≡ map slot_in (take l.slot-index l.slots)
