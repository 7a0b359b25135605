-- The calls that read a CPU's ticket.
use Rattle.std.proofs.Common.{◌≡◌, ℕ, Bool, true, false, ◌||◌, ◌&&◌, Option, Some, None, Ok, Err, option_map, refl, sym, ap, ◌∙◌}
use Rattle.std.specs.Prelude.{if◌then◌else◌, is_some, is_none, nat_le, unwrap_or, Result}
use Rattle.page_state.specs.declared.entry.PageRange.{PageRange}
use Rattle.call_table.specs.declared.reply.Refusal.{Refusal}
use Rattle.call_table.specs.declared.reply.Refusal.TheVariants.{NoVm, Perm, Busy}
use Rattle.call_table.specs.declared.reply.Value.TheVariants.{Vm}
use Rattle.call_table.specs.declared.step.Step.TheVariants.{VmReserve, VmOpen, VmRelease, Install, MarkDying}
use Rattle.call_table.specs.declared.step.VmId.{VmId}
use Rattle.call_table.specs.declared.step.VmKind.{VmKind}
use Rattle.page_state.specs.Layouts.{Layout}
use Rattle.reference_model.specs.declared.changes.Changes.{Changes}
use Rattle.reference_model.specs.declared.changes.CpuChange.{CpuChange}
use Rattle.reference_model.specs.declared.changes.GuestChange.TheVariants.{Install as InstallGuest, Die}
use Rattle.reference_model.specs.declared.changes.SlotChange.TheVariants.{Reserve, Open, Release}
use Rattle.reference_model.specs.declared.changes.Stage.{Stage}
use Rattle.reference_model.specs.declared.changes.Stage.TheVariants.{Booked, Installed, Dying, Finished}
use Rattle.reference_model.specs.declared.changes.Ticket.{Ticket}
use Rattle.reference_model.specs.declared.changes.Update.TheVariants.{Becomes}
use Rattle.reference_model.specs.model.Decides.{decides}
use Rattle.reference_model.specs.model.Changes.{no_changes}
use Rattle.reference_model.specs.model.GuestRules.{ticket_vm, ticket_kind, ticket_becomes, moved_on}
use Rattle.reference_model.specs.model.Parts.{stage_eq, has_stage, ticket_slot}
use Rattle.reference_model.specs.model.Rules.{rule}
use Rattle.reference_model.specs.model.SharedRules.{no_range, hand_of}
use Rattle.reference_model.specs.model.State.{Cpu}
use Rattle.reference_model.specs.model.Used.{Used}
use Rattle.reference_model.specs.model.VmRules.{no_ticket, vacant_slot, next_slot}

-- the slot of a ticket

abbrev slot-of : Bool → Option Ticket → Option ℕ
slot-of b o = if b then option_map (λ (t : Ticket). t.vm.slot) o else None

pub stage-some : (stage : Stage) (k : Cpu) (t : Ticket) → k.ticket ≡ Some t → has_stage stage k ≡ stage_eq t.stage stage
stage-some stage k t e = ap (λ (o : Option Ticket). elim o [ Some x ↦ stage_eq x.stage stage | None ↦ false ]) e

pub slot-some : (stage : Stage) (k : Cpu) (t : Ticket)
    → k.ticket ≡ Some t
    → has_stage stage k ≡ true
    → ticket_slot stage k ≡ Some t.vm.slot
slot-some stage k t e h = ap (λ (b : Bool). slot-of b k.ticket) h ∙ ap (slot-of true) e

pub slot-other : (stage : Stage) (k : Cpu) → has_stage stage k ≡ false → ticket_slot stage k ≡ None
slot-other stage k h = ap (λ (b : Bool). slot-of b k.ticket) h

pub slot-none : (stage : Stage) (k : Cpu) → k.ticket ≡ None → has_stage stage k ≡ true → ticket_slot stage k ≡ None
slot-none stage k e h = ap (λ (b : Bool). slot-of b k.ticket) h ∙ ap (slot-of true) e

pub vm-some : (k : Cpu) (t : Ticket) → k.ticket ≡ Some t → ticket_vm k ≡ t.vm
vm-some k t e = ap (λ (o : Option Ticket). elim o [ Some x ↦ x.vm | None ↦ record { slot = 0; generation = 0 } ]) e

pub vm-none : (k : Cpu) → k.ticket ≡ None → ticket_vm k ≡ record { slot = 0; generation = 0 }
vm-none k e = ap (λ (o : Option Ticket). elim o [ Some x ↦ x.vm | None ↦ record { slot = 0; generation = 0 } ]) e

module _ (l : Layout) (cpu : ℕ) (slot : Option ℕ) (x : Used) where
  -- an installed VM opens
  pub opens : (vm : VmId) (left : CpuChange)
      → vm ≡ ticket_vm x.cpu
      → left ≡ no_ticket
      → has_stage Installed x.cpu ≡ true
      → Ok (record no_changes { slot = Open vm.slot; cpu = left; value = Vm vm }) ≡ decides l cpu slot VmOpen x
  unfolding rule
  opens vm left e gone h = rw (e, gone, h) refl

  pub opens-not : has_stage Installed x.cpu ≡ false → Err NoVm ≡ decides l cpu slot VmOpen x
  unfolding rule
  opens-not h = rw h refl

  -- a slot is released
  pub releases : (vm : VmId) (left : CpuChange)
      → vm ≡ ticket_vm x.cpu
      → left ≡ no_ticket
      → (has_stage Booked x.cpu || has_stage Finished x.cpu) ≡ true
      → Ok (record no_changes { slot = Release vm; cpu = left }) ≡ decides l cpu slot VmRelease x
  unfolding rule
  releases vm left e gone h = rw (e, gone, h) refl

  pub releases-not : (has_stage Booked x.cpu || has_stage Finished x.cpu) ≡ false
      → Err NoVm ≡ decides l cpu slot VmRelease x
  unfolding rule
  releases-not h = rw h refl

  -- a Live guest becomes Dying

  pub dies-nowhere : is_none slot ≡ true → Err NoVm ≡ decides l cpu slot MarkDying x
  unfolding rule
  dies-nowhere h = rw h refl

  pub dies : (on : CpuChange)
      → on ≡ moved_on Dying x.cpu
      → is_none slot ≡ false
      → Ok (record no_changes { part = Die; cpu = on }) ≡ decides l cpu slot MarkDying x
  unfolding rule
  dies on m h = rw (m, h) refl

  -- a guest becomes Live
  pub installs-nowhere : is_none slot ≡ true → Err NoVm ≡ decides l cpu slot Install x
  unfolding rule
  installs-nowhere h = rw h refl

  pub installs-not : is_none slot ≡ false → is_none x.cpu.hand ≡ true → Err Perm ≡ decides l cpu slot Install x
  unfolding rule
  installs-not h none = rw (h, none) refl

  pub installs : (kind : VmKind) (vm : VmId) (hand : PageRange) (on : CpuChange)
      → kind ≡ ticket_kind x.cpu
      → vm ≡ ticket_vm x.cpu
      → x.cpu.hand ≡ Some hand
      → on ≡ moved_on Installed x.cpu
      → is_none slot ≡ false
      → Ok
      (record no_changes {
        part = InstallGuest kind vm.generation hand;
        cpu = record on { hand = Becomes None };
        moved = x.cpu.hand;
      })
      ≡ decides l cpu slot Install x
  unfolding rule
  installs kind vm hand on a b e m h =
      let some : is_none x.cpu.hand ≡ false = ap is_none e in
      let own : hand_of x.cpu ≡ hand = ap (λ (o : Option PageRange). unwrap_or o no_range) e in
      rw (a, b, m, h, some)
      (ap
      (λ (r : PageRange). Ok
      (record no_changes {
        part = InstallGuest (ticket_kind x.cpu) (ticket_vm x.cpu).generation r;
        cpu = record (moved_on Installed x.cpu) { hand = Becomes None };
        moved = x.cpu.hand;
      }))
      (sym own))

  -- a slot is reserved
  pub reserves-none : (kind : VmKind) (vcpus : ℕ)
      → (nat_le 1 vcpus && nat_le vcpus 8) ≡ true
      → is_some x.cpu.ticket ≡ false
      → vacant_slot x.vms ≡ None
      → Err Busy ≡ decides l cpu slot (VmReserve kind vcpus) x
  unfolding rule
  reserves-none kind vcpus good free e =
      let none : is_none (vacant_slot x.vms) ≡ true = ap is_none e in
      rw (good, free, none) refl

  abbrev reserved-as : VmKind → ℕ → ℕ → ℕ → Result Changes Refusal
  reserved-as kind vcpus v n =
      Ok
      (record no_changes {
        slot = Reserve v kind vcpus;
        cpu = ticket_becomes (record { slot = v; generation = n }) kind Booked;
        value = Vm (record { slot = v; generation = n });
      })

  pub reserves : (kind : VmKind) (vcpus v n : ℕ) (on : CpuChange)
      → (nat_le 1 vcpus && nat_le vcpus 8) ≡ true
      → is_some x.cpu.ticket ≡ false
      → vacant_slot x.vms ≡ Some v
      → n ≡ (x.vms.slot v).generation
      → on ≡ ticket_becomes (record { slot = v; generation = n }) kind Booked
      → Ok
      (record no_changes
      { slot = Reserve v kind vcpus; cpu = on; value = Vm (record { slot = v; generation = n }) })
      ≡ decides l cpu slot (VmReserve kind vcpus) x
  unfolding rule
  reserves kind vcpus v n on good free e g m =
      let some : is_none (vacant_slot x.vms) ≡ false = ap is_none e in
      let own : v ≡ next_slot x = sym (ap (λ (o : Option ℕ). unwrap_or o 0) e) in
      rw (good, free, some, m, g) (ap (λ (u : ℕ). reserved-as kind vcpus u (x.vms.slot u).generation) own)
