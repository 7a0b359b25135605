-- Laws of every state.
use Rattle.reference_model.specs.help.Conditions.{SlotsFit}
use Rattle.reference_model.specs.model.State.{Contents}
use Rattle.ghost_slots.specs.declared.fault.SlotFault.{SlotFault}
use Rattle.ghost_slots.specs.Faults.{IsSlotFault}

-- the slots of a state with such a fault don't agree
abbrev pub FaultsAreReal : Type 0
FaultsAreReal = (s : Contents) (x : SlotFault) → IsSlotFault s x → SlotsFit s → ⊥
