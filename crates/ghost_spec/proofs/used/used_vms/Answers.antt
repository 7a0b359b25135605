use Rattle.std.proofs.Common.{◌≡◌, List, get_or, map, ap}
use Rattle.std.proofs.lemmas.Result.{IfOk-weaker}
use Rattle.reference_model.specs.model.State.{Slot, Vms, no_slot}
use Rattle.ghost_spec.specs.States.{slot_in}
use Rattle.ghost_spec.specs.Used.{vms_in}
use Rattle.ghost_spec.proofs.used.used_vms.Goals as goal

vms-of : List Slot → Vms
vms-of xs = record { slot = λ v. get_or xs v (no_slot 1) }

pub returns-then-is_used-clause-vms : goal.returns-then-is_used-clause-vms
unfolding vms-of
returns-then-is_used-clause-vms c =
    rw c.if-is_used.true
    (IfOk-weaker c.copied_slots.result (λ v. map slot_in v.items ≡ map slot_in c.args.vms.now)
    (λ v. vms_in v.items ≡ vms_in c.args.vms.now) (λ v e. ap vms-of e) c.copied_slots.ensures)
