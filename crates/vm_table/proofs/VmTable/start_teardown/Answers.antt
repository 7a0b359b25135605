use Rattle.reference_model.specs.model.State.{Slot, closing}
use Rattle.vm_table.specs.View.{slot_of, vms_of}
use Rattle.vm_table.proofs.Slots.{changed_at}
use Rattle.vm_table.proofs.VmTable.start_teardown.Goals as goal

pub returns : goal.returns
returns c =
    changed_at c.args.slot (vms_of c.args.self.now) (vms_of c.put_slot.new.self) (slot_of c.slot-old.result)
    (λ (y : Slot). record y { stand = closing }) c.put_slot.ensures c.slot-old.ensures
