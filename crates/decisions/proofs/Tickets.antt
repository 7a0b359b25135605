-- The slot of a CPU's ticket.
use Rattle.std.proofs.Common.{◌≡◌, ℕ, Bool, true, false, ◌||◌, Option, Some, None, Ok, Err, option_map, refl, sym, ap, ◌∙◌, if◌then◌else◌}
use Rattle.call_table.specs.declared.reply.Refusal.TheVariants.{NoVm}
use Rattle.call_table.specs.declared.reply.Value.TheVariants.{Vm}
use Rattle.call_table.specs.declared.step.Step.TheVariants.{VmOpen, VmRelease}
use Rattle.call_table.specs.declared.step.VmId.{VmId}
use Rattle.page_state.specs.Layouts.{Layout}
use Rattle.reference_model.specs.declared.changes.CpuChange.{CpuChange}
use Rattle.reference_model.specs.declared.changes.SlotChange.TheVariants.{Open, Release}
use Rattle.reference_model.specs.declared.changes.Stage.TheVariants.{Booked, Installed, Finished}
use Rattle.reference_model.specs.model.Decides.{decides}
use Rattle.reference_model.specs.model.Changes.{no_changes}
use Rattle.reference_model.specs.model.GuestRules.{ticket_vm}
use Rattle.reference_model.specs.model.Rules.{rule}
use Rattle.reference_model.specs.model.Used.{vms_alone}
use Rattle.reference_model.specs.model.VmRules.{no_ticket as no_ticket_left}
use Rattle.reference_model.specs.declared.changes.Stage.{Stage}
use Rattle.reference_model.specs.declared.changes.Ticket.{Ticket}
use Rattle.reference_model.specs.model.Parts.{stage_eq, has_stage, ticket_slot}
use Rattle.reference_model.specs.model.State.{Vms, Cpu}

pub ticket_is : (stage : Stage) (k : Cpu) (t : Ticket) (b : Bool)
    → k.ticket ≡ Some t
    → stage_eq t.stage stage ≡ b
    → ticket_slot stage k ≡ (if b then Some t.vm.slot else None)
ticket_is stage k t b e f =
    let named : has_stage stage k ≡ b =
    ap (λ (o : Option Ticket). elim o [ Some x ↦ stage_eq x.stage stage | None ↦ false ]) e ∙ f in
    ap (λ x. if x then option_map (λ (y : Ticket). y.vm.slot) k.ticket else None) named
    ∙ ap (λ (o : Option Ticket). if b then option_map (λ (y : Ticket). y.vm.slot) o else None) e

pub no_ticket : (stage : Stage) (k : Cpu) → k.ticket ≡ None → ticket_slot stage k ≡ None
no_ticket stage k e =
    ap
    (λ (o : Option Ticket). if (elim o [ Some x ↦ stage_eq x.stage stage | None ↦ false ])
    then option_map (λ (y : Ticket). y.vm.slot) o
    else None) e

-- the ticket's stage, as a test
pub stage_is : (stage : Stage) (k : Cpu) (t : Ticket) (b : Bool)
    → k.ticket ≡ Some t
    → stage_eq t.stage stage ≡ b
    → has_stage stage k ≡ b
stage_is stage k t b e f = ap (λ (o : Option Ticket). elim o [ Some x ↦ stage_eq x.stage stage | None ↦ false ]) e ∙ f

-- the VM of a ticket
abbrev vm_of : Option Ticket → VmId
vm_of o = elim o [ Some t ↦ t.vm | None ↦ record { slot = 0; generation = 0 } ]

-- no ticket is of no VM
pub vm_of_none : (k : Cpu) → k.ticket ≡ None → record { slot = 0; generation = 0 } ≡ ticket_vm k
vm_of_none k e = ap vm_of (sym e)

-- an installed VM opens
pub opens : (l : Layout) (id : ℕ) (v : Vms) (k : Cpu) (t : Ticket) (left : CpuChange)
    → left ≡ no_ticket_left
    → has_stage Installed k ≡ true
    → k.ticket ≡ Some t
    → Ok (record no_changes { slot = Open t.vm.slot; cpu = left; value = Vm t.vm })
    ≡ decides l id None VmOpen (vms_alone v k)
unfolding rule
opens l id v k t left gone h e =
    rw (gone, h)
    (ap
    (λ (o : Option Ticket). Ok
    (record no_changes { slot = Open (vm_of o).slot; cpu = no_ticket_left; value = Vm (vm_of o) }))
    (sym e))

pub opens_none : (l : Layout) (id : ℕ) (v : Vms) (k : Cpu)
    → has_stage Installed k ≡ false
    → Err NoVm ≡ decides l id None VmOpen (vms_alone v k)
unfolding rule
opens_none l id v k h = rw h refl

-- a slot is released
pub releases : (l : Layout) (id : ℕ) (v : Vms) (k : Cpu) (t : Ticket) (left : CpuChange)
    → left ≡ no_ticket_left
    → (has_stage Booked k || has_stage Finished k) ≡ true
    → k.ticket ≡ Some t
    → Ok (record no_changes { slot = Release t.vm; cpu = left }) ≡ decides l id None VmRelease (vms_alone v k)
unfolding rule
releases l id v k t left gone h e =
    rw (gone, h)
    (ap (λ (o : Option Ticket). Ok (record no_changes { slot = Release (vm_of o); cpu = no_ticket_left })) (sym e))

pub releases_none : (l : Layout) (id : ℕ) (v : Vms) (k : Cpu)
    → (has_stage Booked k || has_stage Finished k) ≡ false
    → Err NoVm ≡ decides l id None VmRelease (vms_alone v k)
unfolding rule
releases_none l id v k h = rw h refl
