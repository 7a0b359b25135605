use Rattle.std.proofs.Common.{◌≡◌, List, Some, None, ap, sym, ◌∙◌}
use Rattle.reference_model.specs.model.State.{Slot}
use Rattle.reference_model.specs.model.VmRules.{vacant_slot}
use Rattle.ghost_spec.specs.declared.parts.GhostSlot.{GhostSlot}
use Rattle.ghost_spec.specs.Used.{used_in, vms_in}
use Rattle.ghost_spec.proofs.Tickets.{reserves, reserves-none}
use Rattle.ghost_spec.proofs.vm_rules.vm_reserve.Goals as goal

pub returns-in_default-clause-decided : goal.returns-in_default-clause-decided
returns-in_default-clause-decided c = λ l cpu slot.
    let none : vacant_slot (vms_in c.args.used.now.vms.items) ≡ None =
    ap (λ (xs : List GhostSlot). vacant_slot (vms_in xs)) (sym c.as_slice.ensures.value)
    ∙ sym c.vacant_slot.ensures.value ∙ c.in_default.is in
    reserves-none l cpu slot (used_in c.args.used.now) c.args.kind c.args.vcpus
    (sym c.is_good_count.ensures ∙ c.if-not-is_good_count.false) (sym c.is_some.ensures ∙ c.if-is_some.false) none

pub returns-clause-decided : goal.returns-clause-decided
returns-clause-decided c = λ l cpu slot.
    let some : vacant_slot (vms_in c.args.used.now.vms.items) ≡ Some c.in-Some.slot =
    ap (λ (xs : List GhostSlot). vacant_slot (vms_in xs)) (sym c.as_slice.ensures.value)
    ∙ sym c.vacant_slot.ensures.value ∙ c.in-Some.is in
    let generation = ap (λ (s : Slot). s.generation) (rw c.as_slice-2.ensures.value at c.slot_at.ensures) in
    reserves l cpu slot
    (used_in c.args.used.now) c.args.kind c.args.vcpus c.in-Some.slot c.slot_at.result.now.generation
    c.ticket_becomes.result
    (sym c.is_good_count.ensures ∙ c.if-not-is_good_count.false)
    (sym c.is_some.ensures ∙ c.if-is_some.false) some generation c.ticket_becomes.ensures
