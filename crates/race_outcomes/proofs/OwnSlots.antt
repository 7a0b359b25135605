-- What a CPU's own calls say of the slots of its steps: two runs in which it made the same steps, with the same
-- replies, leave it the same slots.
use Rattle.std.proofs.Common.{◌≡◌, ℕ, ◌==◌, Bool, true, false, refl, sym, ap, ◌∙◌, inl, inr, ◌⊎◌, List, [], ◌∷◌, map, Option, Some, None, option_map}
use Rattle.std.specs.Prelude.{if◌then◌else◌}
use Rattle.page_state.proofs.Common.{both, eq-same, eq-self, if-false, if-true}
use Rattle.page_state.specs.Layouts.{Layout}
use Rattle.call_table.specs.declared.reply.Call.{Call}
use Rattle.call_table.specs.declared.reply.Reply.{Reply}
use Rattle.call_table.specs.declared.reply.Reply.TheVariants.{Done, Refused}
use Rattle.call_table.specs.declared.reply.Value.{Value}
use Rattle.call_table.specs.declared.reply.Value.TheVariants.{Vm}
use Rattle.call_table.specs.declared.step.Step.{Step}
use Rattle.call_table.specs.declared.step.Step.TheVariants.{ShareGuest, DonateGuest, GuestShareHost, GuestUnshareHost, Install, FinishGuest, GuestRelax, MarkDying, VmReserve, VmOpen, VcpuLoad, VcpuPut, Teardown, VmRelease}
use Rattle.call_table.specs.declared.step.VmId.{VmId}
use Rattle.reference_model.proofs.Steps.{log_full_keeps, refusal_keeps, step_changes}
use Rattle.reference_model.specs.declared.changes.Loaded.{Loaded}
use Rattle.reference_model.specs.declared.changes.Stage.{Stage}
use Rattle.reference_model.specs.declared.changes.Stage.TheVariants as stages
use Rattle.reference_model.specs.declared.changes.Ticket.{Ticket}
use Rattle.reference_model.specs.model.Changes.{cpu_by}
use Rattle.reference_model.specs.model.GuestRules.{ticket_vm}
use Rattle.reference_model.specs.model.History.{calls_by}
use Rattle.reference_model.specs.model.Parts.{loaded_slot, stage_eq, ticket_slot}
use Rattle.reference_model.specs.model.Rules.{guest_slot, rule}
use Rattle.reference_model.specs.model.Run.{Runs}
use Rattle.reference_model.specs.model.State.{Cpu, Reference}
use Rattle.reference_model.specs.model.Step.{Answered, Steps, changed, made, used_by, with_rows}
use Rattle.reference_model.specs.model.Used.{Used, put_back, used_of}
use Rattle.race_outcomes.proofs.Runs.{told_by}

-- a ticket's VM and its stage
abbrev Name : Type 0
Name = VmId × Stage

abbrev named : Option Ticket → Option Name
named o = option_map (λ t. (t.vm, t.stage)) o

-- what a CPU's own state says of slots: its loaded vCPU, and the VM and the stage of its ticket
abbrev Own : Type 0
Own = Option Loaded × Option Name

abbrev own_of : Cpu → Own
own_of k = (k.loaded, named k.ticket)

abbrev no_name : VmId
no_name = record { slot = 0; generation = 0 }

abbrev name_of : Option Name → VmId
name_of None = no_name
name_of (Some n) = n.0

abbrev name_in : Value → VmId
name_in (Vm vm) = vm
name_in other = no_name

-- the same after a step that was made
abbrev own_made : Step → Value → Own → Own
own_made Install v o = (o.0, Some (name_of o.1, stages.Installed))
own_made FinishGuest v o = (o.0, Some (name_of o.1, stages.Finished))
own_made MarkDying v o = (o.0, Some (name_of o.1, stages.Dying))
own_made (VmReserve kind vcpus) v o = (o.0, Some (name_in v, stages.Booked))
own_made VmOpen v o = (o.0, None)
own_made (VcpuLoad vm i) v o = (Some (record { vm = vm; vcpu = i }), o.1)
own_made VcpuPut v o = (None, o.1)
own_made (Teardown vm) v o = (o.0, Some (vm, stages.Closing))
own_made VmRelease v o = (o.0, None)
own_made other v o = o

abbrev own_after : Step × Reply → Own → Own
own_after (step, Done v) o = own_made step v o
own_after (step, Refused why) o = o

abbrev own_along : List (Step × Reply) → Own → Own
own_along [] o = o
own_along (a ∷ more) o = own_along more (own_after a o)

vm_named : (o : Option Ticket) (k : Cpu) → k.ticket ≡ o → ticket_vm k ≡ name_of (named k.ticket)
vm_named None k e = rw e refl
vm_named (Some t) k e = rw e refl

moved_same : (k : Cpu) (stage : Stage)
    → ◌≡◌ {A = Own} (k.loaded, Some (ticket_vm k, stage)) (k.loaded, Some (name_of (named k.ticket), stage))
moved_same k stage = ap (λ (vm : VmId). (k.loaded, Some (vm, stage))) (vm_named k.ticket k refl)

-- the changes of a rule
by_changes : (l : Layout) (cpu : ℕ) (slot : Option ℕ) (step : Step) (x : Used)
    → own_of (cpu_by (rule l cpu slot step x).changes.cpu x.cpu)
    ≡ own_made step (rule l cpu slot step x).changes.value (own_of x.cpu)
unfolding rule
by_changes l cpu slot Install x = moved_same x.cpu stages.Installed
by_changes l cpu slot FinishGuest x = moved_same x.cpu stages.Finished
by_changes l cpu slot MarkDying x = moved_same x.cpu stages.Dying
by_changes l cpu slot other x = refl

module _ (l : Layout) where
  made_cpu : (c : Call) (x : Used)
      → (made l c.cpu c.slot c.step x).cpu ≡ cpu_by (rule l c.cpu c.slot c.step x).changes.cpu x.cpu
  unfolding made with_rows changed
  made_cpu c x = refl

  used_cpu : (c : Call) (s : Reference) → (used_by c s).cpu ≡ s.contents.cpu c.cpu
  unfolding used_of
  used_cpu c s = refl

  put_cpu : (c : Call) (s t : Reference) (h : Steps l s c t) → t.contents.cpu c.cpu ≡ h.after.cpu
  unfolding put_back
  put_cpu c s t h =
      ap (λ (u : Reference). u.contents.cpu c.cpu) h.next
      ∙ if-true (c.cpu == c.cpu) h.after.cpu (s.contents.cpu c.cpu) (eq-self c.cpu)

  -- one step of the CPU
  own_step : (s t : Reference) (c : Call)
      → Steps l s c t
      → own_of (t.contents.cpu c.cpu) ≡ own_after (told_by c) (own_of (s.contents.cpu c.cpu))
  own_step s t c h = elim h.on.answers [
    | inl f ↦ kept (λ e. ap (λ (u : Reference). u.contents) (log_full_keeps l s t c h e)) f.reply
    | inr a ↦ by a.answered
  ]
    where
      kept : {why : _} → (c.reply ≡ Refused why → t.contents ≡ s.contents) → c.reply ≡ Refused why
          → own_of (t.contents.cpu c.cpu) ≡ own_after (told_by c) (own_of (s.contents.cpu c.cpu))
      kept {why} keeps e =
          ap (λ k. own_of (k.cpu c.cpu)) (keeps e)
          ∙ sym (ap (λ (r : Reply). own_after (c.step, r) (own_of (s.contents.cpu c.cpu))) e)

      by : Answered l c.cpu c.slot c.step true (used_by c s) c.reply h.after
          → own_of (t.contents.cpu c.cpu) ≡ own_after (told_by c) (own_of (s.contents.cpu c.cpu))
      by (inl m) =
          ap own_of (put_cpu c s t h ∙ ap (λ (y : Used). y.cpu) m.next ∙ made_cpu c (used_by c s))
          ∙ by_changes l c.cpu c.slot c.step (used_by c s)
          ∙ ap (λ k. own_made c.step (rule l c.cpu c.slot c.step (used_by c s)).changes.value (own_of k)) (used_cpu c s)
          ∙ sym (ap (λ (r : Reply). own_after (c.step, r) (own_of (s.contents.cpu c.cpu))) m.reply_is)
      by (inr (inl m)) = kept {why = m.why} (refusal_keeps l s t c m.why h) m.reply_is
      by (inr (inr m)) = kept (refusal_keeps l s t c _ h) m.reply_is

  -- a run
  own_run : (cpu : ℕ) (log : List Call) (s t : Reference)
      → Runs (Steps l) s log t
      → own_of (t.contents.cpu cpu) ≡ own_along (map told_by (calls_by cpu log)) (own_of (s.contents.cpu cpu))
  own_run cpu [] s t h = ap (λ (u : Reference). own_of (u.contents.cpu cpu)) (sym h)
  own_run cpu (c ∷ cs) s t h = own_run cpu cs h.0 t h.2 ∙ by (both (c.cpu == cpu))
    where
      by : ((c.cpu == cpu) ≡ true) ⊎ ((c.cpu == cpu) ≡ false)
          → own_along (map told_by (calls_by cpu cs)) (own_of (h.0.contents.cpu cpu))
          ≡ own_along (map told_by (calls_by cpu (c ∷ cs))) (own_of (s.contents.cpu cpu))
      by (inl mine) =
          let same = eq-same c.cpu cpu mine in
          ap (own_along (map told_by (calls_by cpu cs)))
          (ap (λ k. own_of (h.0.contents.cpu k)) (sym same) ∙ own_step s h.0 c h.1
          ∙ ap (λ k. own_after (told_by c) (own_of (s.contents.cpu k))) same)
          ∙ sym
          (ap (λ xs. own_along (map told_by xs) (own_of (s.contents.cpu cpu)))
          (if-true (c.cpu == cpu) (c ∷ calls_by cpu cs) (calls_by cpu cs) mine))
      by (inr other) =
          let beside = (step_changes l s h.0 c h.1).cpu cpu
          (λ e. apart (c.cpu == cpu) (ap (λ k. k == cpu) (sym e) ∙ eq-self cpu) other) in
          ap (λ k. own_along (map told_by (calls_by cpu cs)) (own_of k)) (ap (λ (p : Cpu × ℕ). p.0) beside)
          ∙ sym
          (ap (λ xs. own_along (map told_by xs) (own_of (s.contents.cpu cpu)))
          (if-false (c.cpu == cpu) (c ∷ calls_by cpu cs) (calls_by cpu cs) other))
        where
          apart : (b : Bool) → b ≡ true → b ≡ false → ⊥
          apart b e f = cc

-- the slot of a ticket
abbrev slot_named : Stage → Option Name → Option ℕ
slot_named stage None = None
slot_named stage (Some n) = if stage_eq n.1 stage then Some n.0.slot else None

ticket_named : (stage : Stage) (o : Option Ticket) (k : Cpu)
    → k.ticket ≡ o
    → ticket_slot stage k ≡ slot_named stage (named k.ticket)
ticket_named stage None k e = rw e refl
ticket_named stage (Some t) k e = rw e refl

-- the slot of a step
module _ (j k : Cpu) (e : own_of j ≡ own_of k) where
  loaded_same : loaded_slot j ≡ loaded_slot k
  loaded_same = ap (λ (o : Own). option_map (λ x. x.vm.slot) o.0) e

  ticket_same : (stage : Stage) → ticket_slot stage j ≡ ticket_slot stage k
  ticket_same stage =
      ticket_named stage j.ticket j refl
      ∙ ap (λ (o : Own). slot_named stage o.1) e
      ∙ sym (ticket_named stage k.ticket k refl)

  slot_same : (step : Step) → guest_slot j step ≡ guest_slot k step
  slot_same (ShareGuest f g p n) = loaded_same
  slot_same (DonateGuest f g n) = loaded_same
  slot_same (GuestShareHost g) = loaded_same
  slot_same (GuestUnshareHost g) = loaded_same
  slot_same (GuestRelax g p) = loaded_same
  slot_same Install = ticket_same stages.Booked
  slot_same FinishGuest = ticket_same stages.Dying
  slot_same MarkDying = ticket_same stages.Closing
  slot_same other = refl

-- from one state, runs in which a CPU's steps and replies are the same lead to states with the same slots of its steps
pub same_slots : (l : Layout) (cpu : ℕ) (xs ys : List Call) (s t u : Reference)
    → Runs (Steps l) s xs t
    → Runs (Steps l) s ys u
    → map told_by (calls_by cpu xs) ≡ map told_by (calls_by cpu ys)
    → (step : Step)
    → guest_slot (t.contents.cpu cpu) step ≡ guest_slot (u.contents.cpu cpu) step
same_slots l cpu xs ys s t u h k e =
    slot_same (t.contents.cpu cpu) (u.contents.cpu cpu)
    (own_run l cpu xs s t h
    ∙ ap (λ told. own_along told (own_of (s.contents.cpu cpu))) e
    ∙ sym (own_run l cpu ys s u k))
