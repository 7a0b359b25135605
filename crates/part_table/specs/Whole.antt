-- All parts, as the slots of a table by number.
use Rattle.std.specs.Prelude.{List, [], ◌∷◌, Option}
use Rattle.part_types.specs.declared.parts.CpuState.{CpuState}
use Rattle.hypercalls.specs.declared.parts.Parts.{Parts}
use Rattle.part_table.specs.declared.slot.Slot.{Slot}
use Rattle.part_table.specs.declared.slot.Slot.TheVariants.{Vm as VmSlot, Shared as SharedSlot, Guest as GuestSlot}
use Rattle.part_table.specs.Endings.{IsEndIn}
use Rattle.hypercalls.specs.Stands.{HasHistory}

module _ {A : Type 0} where
  -- slots of guests alone
  abbrev pub AreGuests : List (Slot A) → Type 0
  AreGuests [] = Unit {0}
  AreGuests (VmSlot v ∷ xs) = ⊥
  AreGuests (SharedSlot s ∷ xs) = ⊥
  AreGuests (GuestSlot g ∷ xs) = AreGuests xs

  -- the VM part, the Shared part, and guests alone
  abbrev pub AreParts : List (Slot A) → Type 0
  AreParts (VmSlot v ∷ (SharedSlot s ∷ xs)) = AreGuests xs
  AreParts other = ⊥

-- if the parts have a legal history, the slots' parts and the CPUs' own states are its end
abbrev pub EndsInSlots : {A : Type 0} → Parts A → List (Option (Slot A)) → List CpuState → Type 0
EndsInSlots p slots cpus = HasHistory p → IsEndIn p.layout slots cpus
