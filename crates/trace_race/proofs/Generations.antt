-- A call raises no generation by more than one.
use Rattle.std.proofs.Common.{◌≡◌, ℕ, ◌+◌, ◌≤◌, ◌<◌, ◌^◌, refl, sym, subst, arith, inl, inr}
use Rattle.std.specs.Prelude.{Bool, true, false, not, ◌==◌, IfSome, Option, Some, None, if◌then◌else◌}
use Rattle.std.proofs.lemmas.Bool.Decides.{nat_tests}
use Rattle.call_table.specs.declared.reply.Refusal.TheVariants.{LogFull}
use Rattle.call_table.specs.declared.reply.Refusal.{Refusal}
use Rattle.call_table.specs.declared.reply.Reply.{Reply}
use Rattle.call_table.specs.declared.reply.Reply.TheVariants.{Done, Refused}
use Rattle.call_table.specs.declared.step.Step.{Step}
use Rattle.call_table.specs.declared.step.Step.TheVariants.{Install, FinishGuest, MarkDying, VmReserve, VmOpen, Teardown, VmRelease}
use Rattle.call_table.specs.declared.step.VmId.{VmId}
use Rattle.page_state.specs.Layouts.{Layout}
use Rattle.page_state.proofs.Common.{and-both}
use Rattle.reference_model.specs.declared.changes.Changes.{Changes}
use Rattle.reference_model.specs.declared.changes.SlotChange.{SlotChange}
use Rattle.reference_model.specs.declared.changes.SlotChange.TheVariants.{Keep as KeepSlots, Reserve, Open, Close, Release, Load, Unload}
use Rattle.reference_model.specs.declared.changes.Ticket.{Ticket}
use Rattle.reference_model.specs.declared.changes.Update.{Update}
use Rattle.reference_model.specs.declared.changes.Update.TheVariants.{Keep, Becomes}
use Rattle.reference_model.specs.model.Boot.{boot, booted}
use Rattle.reference_model.specs.model.Changes.{updated, vms_by}
use Rattle.reference_model.specs.model.Parts.{lacks_slot, uses_vms}
use Rattle.reference_model.specs.model.Rules.{rule, names, guest_slot}
use Rattle.reference_model.specs.model.State.{Contents, Cpu, Reference, Slot, Vms, closing, no_slot, no_vms, opened, put_at, reserved}
use Rattle.reference_model.specs.model.Step.{answer, changed, fails, predict_step, is_full, made, predict, stored, with_rows}
use Rattle.reference_model.specs.model.Used.{Used, UsedRooms, put_back, rooms_of, used_of}
use Rattle.reference_model.specs.model.VmRules.{is_open, next_slot, stand_eq}
use Rattle.reference_model.proofs.conditions.Slots.{put-fact}
use Rattle.reference_model.proofs.conditions.Tests.{passed}
use Rattle.ghost_judge.specs.declared.disagreement.Disagreement.{Disagreement}
use Rattle.ghost_spec.specs.Kept.{HasNextGeneration}
use Rattle.trace_race.specs.Judged.{HasGenerationsTo, Judges}
use Rattle.trace_race.proofs.Judging.{want_cases}

module _ (n : ℕ) (some : 1 ≤ n) where
  abbrev Low : Option Ticket → Type 0
  Low o = IfSome o (λ t. t.vm.generation ≤ n)

  abbrev AreLow : Vms → Type 0
  AreLow z = (v : ℕ) → (z.slot v).generation ≤ n

  -- what is changed of a slot raises a generation that isn't above n, and a new ticket has no other
  RaisesLow : SlotChange → Type 0
  RaisesLow (Release vm) = vm.generation ≤ n
  RaisesLow other = Unit {0}

  BecomesLow : Update (Option Ticket) → Type 0
  BecomesLow (Becomes o) = Low o
  BecomesLow Keep = Unit {0}

  record IsModest (h : Changes) : Type 0 where
    slot : RaisesLow h.slot
    ticket : BecomesLow h.cpu.ticket

  abbrev Next : ℕ → Slot → Type 0
  Next v y = y.generation ≤ n + 1

  rises : (z : Vms) (h : SlotChange) → RaisesLow h → AreLow z → (v : ℕ) → ((vms_by h z).slot v).generation ≤ n + 1
  unfolding RaisesLow
  rises z KeepSlots m b v = let k = b v in omega (arith, k)
  rises z (Reserve u kind i) m b v =
      put-fact Next z.slot u (record (z.slot u) { stand = reserved; kind = kind; vcpus = i })
      (let k = b u in omega (arith, k)) (λ w e. let k = b w in omega (arith, k)) v
  rises z (Open u) m b v =
      put-fact Next z.slot u (record (z.slot u) { stand = opened }) (let k = b u in omega (arith, k))
      (λ w e. let k = b w in omega (arith, k)) v
  rises z (Close u) m b v =
      put-fact Next z.slot u (record (z.slot u) { stand = closing }) (let k = b u in omega (arith, k))
      (λ w e. let k = b w in omega (arith, k)) v
  rises z (Release vm) m b v =
      put-fact Next z.slot vm.slot (no_slot (vm.generation + 1)) (omega (arith, m))
      (λ w e. let k = b w in omega (arith, k)) v
  rises z (Load u i c) m b v =
      put-fact Next z.slot u (record (z.slot u) { loaded = put_at (z.slot u).loaded i (Some c) })
      (let k = b u in omega (arith, k)) (λ w e. let k = b w in omega (arith, k)) v
  rises z (Unload u i) m b v =
      put-fact Next z.slot u (record (z.slot u) { loaded = put_at (z.slot u).loaded i None })
      (let k = b u in omega (arith, k)) (λ w e. let k = b w in omega (arith, k)) v

  updates : (h : Update (Option Ticket)) (o : Option Ticket) → BecomesLow h → Low o → Low (updated h o)
  unfolding BecomesLow
  updates Keep o m b = b
  updates (Becomes p) o m b = m

  abbrev vm_in : Option Ticket → VmId
  vm_in o = elim o [ Some t ↦ t.vm | None ↦ record { slot = 0; generation = 0 } ]

  vm_low : (o : Option Ticket) → Low o → (vm_in o).generation ≤ n
  vm_low (Some t) b = b
  vm_low None b = omega arith

  used_low : (b : Bool) (z : Vms) → AreLow z → AreLow (if b then z else no_vms)
  used_low true z h = h
  used_low false z h = λ v. some

  open_low : (vm : VmId) (y : Slot) → is_open vm y ≡ true → y.generation ≤ n → vm.generation ≤ n
  open_low vm y e low =
      let same = (and-both (stand_eq y.stand opened) (y.generation == vm.generation) e).1 in
      grind (arith, nat_tests)

  module _ (l : Layout) (cpu : ℕ) (slot : Option ℕ) (x : Used) (slots : AreLow x.vms) (ticket : Low x.cpu.ticket) where
    modest : (step : Step) → fails l cpu slot step x ≡ None → IsModest (rule l cpu slot step x).changes
    unfolding rule fails RaisesLow BecomesLow
    modest Install h = record { slot = tt; ticket = vm_low x.cpu.ticket ticket }
    modest FinishGuest h = record { slot = tt; ticket = vm_low x.cpu.ticket ticket }
    modest MarkDying h = record { slot = tt; ticket = vm_low x.cpu.ticket ticket }
    modest (VmReserve kind i) h = record { slot = tt; ticket = slots (next_slot x) }
    modest VmOpen h = record { slot = tt; ticket = tt }
    modest (Teardown vm) h =
        record {
          slot = tt;
          ticket =
              open_low vm (x.vms.slot vm.slot)
              (passed l.depth (rule l cpu slot (Teardown vm) x)
              (lacks_slot (names (Teardown vm)) slot) x h).has_vm
              (slots vm.slot);
        }
    modest VmRelease h = record { slot = vm_low x.cpu.ticket ticket; ticket = tt }
    modest step h = record { slot = tt; ticket = tt }

  module _ (l : Layout) (s : Reference) (cpu : ℕ) (step : Step) (low : HasGenerationsTo n s.contents) where
    abbrev slot : Option ℕ
    slot = guest_slot (s.contents.cpu cpu) step

    abbrev x : Used
    x = used_of (names step) slot cpu s.contents

    abbrev r : UsedRooms
    r = rooms_of (names step) slot cpu s.rooms

    slots_low : AreLow x.vms
    unfolding used_of
    slots_low = used_low (uses_vms (names step)) s.contents.vms low.slots

    ticket_low : Low x.cpu.ticket
    unfolding used_of
    ticket_low = low.tickets cpu

    more : (o : Option Ticket) → Low o → IfSome o (λ t. t.vm.generation ≤ n + 1)
    more (Some t) b = omega (arith, b)
    more None b = tt

    put_slots : (b : Bool) (z : Vms)
        → ((v : ℕ) → (z.slot v).generation ≤ n + 1)
        → (v : ℕ)
        → ((if b then z else s.contents.vms).slot v).generation ≤ n + 1
    put_slots true z h v = h v
    put_slots false z h v = let k = low.slots v in omega (arith, k)

    -- what is used is put back, after a call or as it was
    back : (y : Used)
        → ((v : ℕ) → (y.vms.slot v).generation ≤ n + 1)
        → Low y.cpu.ticket
        → HasGenerationsTo (n + 1) (put_back (names step) slot cpu s.contents y)
    unfolding put_back
    back y h k = record {
      slots = put_slots (uses_vms (names step)) y.vms h;
      tickets =
          put-fact (λ c (k : Cpu). IfSome k.ticket (λ t. t.vm.generation ≤ n + 1)) s.contents.cpu cpu y.cpu
          (more y.cpu.ticket k) (λ c e. more (s.contents.cpu c).ticket (low.tickets c));
    }

    back_same : HasGenerationsTo (n + 1) (put_back (names step) slot cpu s.contents x)
    back_same = back x (λ v. let k = slots_low v in omega (arith, k)) ticket_low

    back_made : fails l cpu slot step x ≡ None
        → HasGenerationsTo (n + 1) (put_back (names step) slot cpu s.contents (made l cpu slot step x))
    unfolding made with_rows changed
    back_made h =
        let m = modest l cpu slot x slots_low ticket_low step h in
        let c = (rule l cpu slot step x).changes in
        back (made l cpu slot step x) (rises x.vms c.slot m.slot slots_low)
        (updates c.cpu.ticket x.cpu.ticket m.ticket ticket_low)

    abbrev answered : Option Refusal → Reply × Used
    answered o =
        elim o [
          | Some why ↦ (Refused why, x)
          | None ↦ (Done (rule l cpu slot step x).changes.value, made l cpu slot step x)
        ]

    back_answered : (o : Option Refusal)
        → fails l cpu slot step x ≡ o
        → HasGenerationsTo (n + 1) (put_back (names step) slot cpu s.contents (answered o).1)
    back_answered (Some why) e = back_same
    back_answered None e = back_made e

    abbrev told : Bool → Option Refusal → Reply × Used × UsedRooms
    told b o = if b then (Refused LogFull, x, r) else ((answered o).0, (answered o).1, stored r)

    back_told : (b : Bool)
        → HasGenerationsTo (n + 1) (put_back (names step) slot cpu s.contents (told b (fails l cpu slot step x)).1)
    back_told true = back_same
    back_told false = back_answered (fails l cpu slot step x) refl

    pub foretold_to : HasGenerationsTo (n + 1) (predict_step l s cpu step).1.contents
    unfolding predict_step predict answer
    foretold_to = back_told (is_full (names step) slot r)

    pub stays_to : HasGenerationsTo (n + 1) s.contents
    stays_to =
        record {
          slots = λ v. let k = low.slots v in
              omega (arith, k);
          tickets = λ c. more (s.contents.cpu c).ticket (low.tickets c);
        }

-- so is it along calls that are judged
pub judged_to : (n : ℕ) (l : Layout) (g h : Reference) (cpu : ℕ) (step : Step) (said : Reply)
    (found : Option Disagreement)
    → 1 ≤ n
    → Judges l g cpu step said found h
    → HasGenerationsTo n g.contents
    → HasGenerationsTo (n + 1) h.contents
judged_to n l g h cpu step said found some judges low = elim (want_cases said) [
  | inl want ↦ subst (λ (s : Reference). HasGenerationsTo (n + 1) s.contents) (sym (judges.wants want).0)
      (stays_to n some l g cpu step low)
  | inr other ↦ subst (λ (s : Reference). HasGenerationsTo (n + 1) s.contents) (sym (judges.other other).0)
      (foretold_to n some l g cpu step low)
]

next_of : (n : ℕ) (o : Option Ticket)
    → n + 1 < 2 ^ 64
    → IfSome o (λ t. t.vm.generation ≤ n)
    → IfSome o (λ t. t.vm.generation + 1 < 2 ^ 64)
next_of n (Some t) few h = omega (arith, few, h)
next_of n None few h = tt

pub next_to : (n : ℕ) (s : Contents) (cpu : ℕ) (step : Step)
    → n + 1 < 2 ^ 64
    → HasGenerationsTo n s
    → HasNextGeneration (s.cpu cpu).ticket step
next_to n s cpu step few low e = next_of n (s.cpu cpu).ticket few (low.tickets cpu)

-- at boot each generation is 1
pub boot_to : (l : Layout) → HasGenerationsTo 1 (boot l).contents
unfolding booted
boot_to l = record { slots = λ v. omega arith; tickets = λ c. tt }
