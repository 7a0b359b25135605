-- All parts by number, each in its slot.
use Rattle.std.specs.Prelude.{List, ◌∷◌, map}
use Rattle.hypercalls.specs.declared.parts.Parts.{Parts}
use Rattle.part_table.specs.declared.slot.Slot.{Slot}
use Rattle.part_table.specs.declared.slot.Slot.TheVariants.{Vm as VmSlot, Shared as SharedSlot, Guest as GuestSlot}

-- the slots of all parts
abbrev pub slots_of : {A : Type 0} → Parts A → List (Slot A)
slots_of p = VmSlot p.vms ∷ (SharedSlot p.shared ∷ map (λ g. GuestSlot g) p.guests.items)
