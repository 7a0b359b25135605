use Rattle.std.proofs.Common.{◌∙◌, ap, is_some}
use Rattle.reference_model.specs.model.State.{Slot}
use Rattle.vm_table.proofs.VmTable.is_loaded.Goals as goal

pub returns : goal.returns
returns c = c.is_some.ensures ∙ ap (λ (s : Slot). is_some (s.loaded c.args.vcpu)) c.slot.ensures
