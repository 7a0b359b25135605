-- The view of the table in contracts, as part of the reference state.
use Rattle.std.specs.Prelude.{List, [], None, get_or}
use Rattle.call_table.specs.declared.step.VmKind.TheVariants.{Plain}
use Rattle.reference_model.specs.model.State.{Stand, vacant, reserved, opened, closing, Slot, Vms}
use Rattle.vm_table.specs.declared.Slot.{Slot as TableSlot}
use Rattle.vm_table.specs.declared.SlotState.{SlotState}
use Rattle.vm_table.specs.declared.SlotState.TheVariants.{Vacant, Reserved, Open, Closing}

-- the stage of a slot
abbrev pub stand_of : SlotState → Stand
stand_of Vacant = vacant
stand_of Reserved = reserved
stand_of Open = opened
stand_of Closing = closing

-- a slot; no CPU has a vCPU past the end of the list loaded
abbrev pub slot_of : TableSlot → Slot
slot_of s =
    record {
      stand = stand_of s.state;
      generation = s.generation;
      kind = s.kind;
      vcpus = s.vcpus;
      loaded = λ i. get_or s.loaded i None;
    }

-- the value in place of a slot that the table doesn't have
abbrev pub no_entry : TableSlot
no_entry = record { state = Vacant; generation = 1; kind = Plain; vcpus = 0; loaded = [] }

-- the VM part that the slots represent; from their number on all slots are Empty
abbrev pub vms_of : List TableSlot → Vms
vms_of slots = record { slot = λ v. slot_of (get_or slots v no_entry) }
