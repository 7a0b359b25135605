-- Slots, loads and tickets through each step that changes them.
use Rattle.std.proofs.Common.{◌≡◌, ◌≢◌, ℕ, ◌≤◌, ◌<◌, refl, ap, sym, ◌∙◌, subst, inl, inr}
use Rattle.std.specs.Prelude.{true, false, ◌==◌, ◌⊎◌, Option, Some, None}
use Rattle.reference_model.specs.declared.changes.Ticket.{Ticket}
use Rattle.reference_model.specs.declared.changes.Stage.{Stage}
use Rattle.reference_model.specs.declared.changes.Loaded.{Loaded}
use Rattle.reference_model.specs.declared.changes.Stage.TheVariants.{Booked as booked, Installed as installed, Closing as closing_vm, Dying as dying_vm, Finished as finished}
use Rattle.page_state.specs.declared.entry.PageRange.{PageRange}
use Rattle.reference_model.specs.model.State.{Guest, Cpu, Contents, Phase, empty, live, Stand, vacant, opened, reserved, closing, put_at}
use Rattle.reference_model.specs.claims.Sound.{IsOne, TicketsAgree, IsTicketOf, IsGuestOf, HasTicket, StageFits}
use Rattle.call_table.specs.declared.step.VmId.{VmId}
use Rattle.call_table.specs.declared.step.VmKind.{VmKind}
use Rattle.call_table.specs.declared.step.VmKind.TheVariants.{Plain as PlainVm}
use Rattle.reference_model.specs.help.Conditions.{SlotsFit}
use Rattle.reference_model.specs.model.GuestRules.{ticket_vm, ticket_kind}
use Rattle.page_state.proofs.Common.{both, eq-same, eq-self, eq-made, if-true, if-false}
use Rattle.page_state.proofs.Cases.{by_lt}
use Rattle.reference_model.proofs.Steps.{state_of}

-- what each of a row of things is after one changed
pub put-fact : {X : Type 0} (P : ℕ → X → Type 0) (g : ℕ → X) (v : ℕ) (new : X)
    → P v new
    → ((u : ℕ) → (u == v) ≡ false → P u (g u))
    → (u : ℕ)
    → P u (put_at g v new u)
put-fact P g v new here there u = elim (both (u == v)) [
  | inl e ↦ subst (P u) (sym (if-true (u == v) new (g u) e)) (subst (λ w. P w new) (sym (eq-same u v e)) here)
  | inr e ↦ subst (P u) (sym (if-false (u == v) new (g u) e)) (there u e)
]

pub put-here : {X : Type 0} (g : ℕ → X) (v : ℕ) (new : X) → put_at g v new v ≡ new
put-here g v new = if-true (v == v) new (g v) (eq-self v)

pub put-there : {X : Type 0} (g : ℕ → X) (v : ℕ) (new : X) (u : ℕ) → (u == v) ≡ false → put_at g v new u ≡ g u
put-there g v new u e = if-false (u == v) new (g u) e

pub apart : (u v : ℕ) → (u == v) ≡ false → u ≡ v → ⊥
apart u v e h = let t : true ≡ false = sym (eq-made u v h) ∙ e in cc

fits-closed : (stage : Stage) (stand : Stand) (phase : Phase)
    → StageFits stage stand phase
    → (stand ≡ reserved) ⊎ (stand ≡ closing)
fits-closed booked stand phase h = inl h.0
fits-closed installed stand phase h = inl h.0
fits-closed closing_vm stand phase h = inr h.0
fits-closed dying_vm stand phase h = inr h.0
fits-closed finished stand phase h = inr h.0

-- a ticket's slot is neither Open nor Empty, and no other CPU names it

pub ticket-once : (s : Contents)
    → TicketsAgree s
    → (c : ℕ) (t : Ticket)
    → (s.cpu c).ticket ≡ Some t
    → IsOne (HasTicket s t.vm.slot)
ticket-once s a c t h =
    elim (fits-closed t.stage (s.vms.slot t.vm.slot).stand (s.guest t.vm.slot).phase (a.ticket c t h).fits)
    [ inl e ↦ a.reserved_once t.vm.slot e | inr e ↦ a.closing_once t.vm.slot e ]

pub ticket-open : (s : Contents)
    → TicketsAgree s
    → (c : ℕ) (t : Ticket)
    → (s.cpu c).ticket ≡ Some t
    → (s.vms.slot t.vm.slot).stand ≡ opened
    → ⊥
ticket-open s a c t h o =
    elim (fits-closed t.stage (s.vms.slot t.vm.slot).stand (s.guest t.vm.slot).phase (a.ticket c t h).fits) [
      | inl e ↦ (let bad : reserved ≡ opened = sym e ∙ o in cc)
      | inr e ↦ (let bad : closing ≡ opened = sym e ∙ o in cc)
    ]

pub ticket-vacant : (s : Contents)
    → TicketsAgree s
    → (c : ℕ) (t : Ticket)
    → (s.cpu c).ticket ≡ Some t
    → (s.vms.slot t.vm.slot).stand ≡ vacant
    → ⊥
ticket-vacant s a c t h o =
    elim (fits-closed t.stage (s.vms.slot t.vm.slot).stand (s.guest t.vm.slot).phase (a.ticket c t h).fits) [
      | inl e ↦ (let bad : reserved ≡ vacant = sym e ∙ o in cc)
      | inr e ↦ (let bad : closing ≡ vacant = sym e ∙ o in cc)
    ]

-- what the rules read of a CPU's ticket
pub ticket-told : (k : Cpu) (t : Ticket) → k.ticket ≡ Some t → (ticket_vm k ≡ t.vm) × (ticket_kind k ≡ t.kind)
ticket-told k t has = (ap (λ o. the-vm o) has, ap (λ o. the-kind o) has)
  where
    the-vm : Option Ticket → VmId
    the-vm o = elim o [ Some u ↦ u.vm | None ↦ record { slot = 0; generation = 0 } ]

    the-kind : Option Ticket → VmKind
    the-kind o = elim o [ Some u ↦ u.kind | None ↦ PlainVm ]

-- a ticket's stage tells how its slot and its guest stand
pub ticket-fits : (s : Contents)
    → SlotsFit s
    → (c v : ℕ) (stage : Stage) (t : Ticket)
    → (s.cpu c).ticket ≡ Some t
    → t.vm.slot ≡ v
    → t.stage ≡ stage
    → StageFits stage (s.vms.slot v).stand (s.guest v).phase
ticket-fits s fit c v stage t h at is =
    subst (λ u. StageFits stage (s.vms.slot u).stand (s.guest u).phase) at
    (subst (λ g. StageFits g (s.vms.slot t.vm.slot).stand (s.guest t.vm.slot).phase) is
    (fit.agree.tickets.ticket c t h).fits)

-- a ticket's slot is one of the 64
pub ticket-slot : (s : Contents) → SlotsFit s → (c : ℕ) (t : Ticket) → (s.cpu c).ticket ≡ Some t → t.vm.slot < 64
ticket-slot s fit c t h =
    by_lt t.vm.slot 64 (λ k. k) (λ k. absurd (ticket-vacant s fit.agree.tickets c t h (fit.few_slots t.vm.slot k)))

-- and so is that of a loaded vCPU, whose guest is Live
pub loaded-open : (s : Contents)
    → SlotsFit s
    → (c : ℕ) (k : Loaded)
    → (s.cpu c).loaded ≡ Some k
    → ((s.vms.slot k.vm.slot).stand ≡ opened) × (k.vm.slot < 64) × ((s.guest k.vm.slot).phase ≢ empty)
loaded-open s fit c k h =
    let at = fit.agree.loads.loaded c k h in
    let up = (fit.agree.loads.loads k.vm.slot k.vcpu c at.0).0 in (
      up,
      by_lt k.vm.slot 64 (λ x. x) (λ x. let bad : vacant ≡ opened = sym (fit.few_slots k.vm.slot x) ∙ up in cc),
      λ e. let bad : empty ≡ live =
          sym e ∙ fit.agree.guests.open_live k.vm.slot up in
          cc,
    )

some-ticket : {a b : Ticket} → Some a ≡ Some b → a ≡ b
some-ticket h = cc

-- a ticket goes on to another stage, and its guest to another phase
module _ (s : Contents) (fit : SlotsFit s) (cpu v : ℕ) (t : Ticket) (g' : Guest) (k' : Cpu) (b : Stage)
    (has : (s.cpu cpu).ticket ≡ Some t) (at : t.vm.slot ≡ v)
    (fits' : StageFits b (s.vms.slot v).stand g'.phase)
    (same : g'.phase ≢ empty → (g'.generation ≡ (s.vms.slot v).generation) × (g'.kind ≡ (s.vms.slot v).kind))
    (loads' : k'.loaded ≡ (s.cpu cpu).loaded)
    (ticket' : k'.ticket ≡ Some (record { vm = t.vm; kind = t.kind; stage = b }))
    (hand' : (h : PageRange) → k'.hand ≡ Some h → 1 ≤ h.count) where
  new : Ticket
  new = record { vm = t.vm; kind = t.kind; stage = b }

  s' : Contents
  s' = state_of s.vms s.shared (put_at s.guest v g') (put_at s.cpu cpu k')

  tickets : TicketsAgree s
  tickets = fit.agree.tickets

  has-old : (u c : ℕ) → HasTicket s' u c → HasTicket s u c
  unfolding s' state_of new
  has-old u c h = elim (both (c == cpu)) [
    | inl e ↦
        let x : new ≡ h.0 =
        some-ticket (sym ticket' ∙ ap (λ (d : Cpu). d.ticket) (sym (if-true (c == cpu) k' (s.cpu c) e)) ∙ h.1) in
        (t, ap (λ d. (s.cpu d).ticket) (eq-same c cpu e) ∙ has, ap (λ (y : Ticket). y.vm.slot) x ∙ h.2)
    | inr e ↦ (h.0, ap (λ (d : Cpu). d.ticket) (sym (if-false (c == cpu) k' (s.cpu c) e)) ∙ h.1, h.2)
  ]

  has-new : (u c : ℕ) → HasTicket s u c → HasTicket s' u c
  unfolding s' state_of new
  has-new u c h = elim (both (c == cpu)) [
    | inl e ↦
        let x : t ≡ h.0 = some-ticket (sym has ∙ ap (λ d. (s.cpu d).ticket) (sym (eq-same c cpu e)) ∙ h.1) in (
          new,
          ap (λ (d : Cpu). d.ticket) (if-true (c == cpu) k' (s.cpu c) e)
              ∙ ticket',
          ap (λ (y : Ticket). y.vm.slot) x ∙ h.2,
        )
    | inr e ↦ (h.0, ap (λ (d : Cpu). d.ticket) (if-false (c == cpu) k' (s.cpu c) e) ∙ h.1, h.2)
  ]

  once : (u : ℕ) → IsOne (HasTicket s u) → IsOne (HasTicket s' u)
  once u x = (x.0, has-new u x.0 x.1, λ c h. x.2 c (has-old u c h))

  loaded-same : (c : ℕ) → ((put_at s.cpu cpu k') c).loaded ≡ (s.cpu c).loaded
  loaded-same = put-fact (λ c (d : Cpu). d.loaded ≡ (s.cpu c).loaded) s.cpu cpu k' loads' (λ c e. refl)

  -- the guest of another slot stays, and that of this one is as the ticket says
  ticket-of : (c : ℕ) (k : Ticket) → (put_at s.cpu cpu k' c).ticket ≡ Some k → IsTicketOf s' k
  unfolding s' state_of new
  ticket-of c k h = elim (both (c == cpu)) [
    | inl e ↦
        let x : new ≡ k =
        some-ticket (sym ticket' ∙ ap (λ (d : Cpu). d.ticket) (sym (if-true (c == cpu) k' (s.cpu c) e)) ∙ h) in
        let old = tickets.ticket cpu t has in
        let fits : StageFits b (s.vms.slot t.vm.slot).stand (put_at s.guest v g' t.vm.slot).phase =
        subst (λ u. StageFits b (s.vms.slot u).stand (put_at s.guest v g' u).phase) (sym at)
        (subst (λ (d : Guest). StageFits b (s.vms.slot v).stand d.phase) (sym (put-here s.guest v g')) fits') in
        let made : IsTicketOf s' new = record { fits = fits; generation = old.generation; kind = old.kind } in
        subst (IsTicketOf s') x made
    | inr e ↦
        let was : (s.cpu c).ticket ≡ Some k =
        ap (λ (d : Cpu). d.ticket) (sym (if-false (c == cpu) k' (s.cpu c) e)) ∙ h in
        let old = tickets.ticket c k was in
        let one = ticket-once s tickets cpu t has in
        let off : (k.vm.slot == v) ≡ false = elim (both (k.vm.slot == v)) [
          | inr n ↦ n
          | inl y ↦
              let here : HasTicket s t.vm.slot c = (k, was, eq-same k.vm.slot v y ∙ sym at) in
              let mine : HasTicket s t.vm.slot cpu = (t, has, refl) in
              absurd (apart c cpu e (one.2 c here ∙ sym (one.2 cpu mine)))
        ] in
        record {
          fits = subst (λ (d : Guest). StageFits k.stage (s.vms.slot k.vm.slot).stand d.phase)
              (sym (put-there s.guest v g' k.vm.slot off)) old.fits;
          generation = old.generation;
          kind = old.kind;
        }
  ]

  pub slots-turn : SlotsFit (state_of s.vms s.shared (put_at s.guest v g') (put_at s.cpu cpu k'))
  unfolding s' state_of new
  slots-turn = record {
    agree = record {
      loads = record {
        loaded = λ c k h. fit.agree.loads.loaded c k (sym (loaded-same c) ∙ h);
        loads = λ u i c h. let x = fit.agree.loads.loads u i c h in (x.0, (x.1.0, loaded-same c ∙ x.1.1, x.1.2, x.1.3));
      };
      guests = record {
        open_live =
            put-fact (λ u (d : Guest). (s.vms.slot u).stand ≡ opened → d.phase ≡ live) s.guest v g'
            (λ o. absurd (ticket-open s tickets cpu t has (ap (λ u. (s.vms.slot u).stand) at ∙ o)))
            (λ u e. fit.agree.guests.open_live u);
        vacant_empty =
            put-fact (λ u (d : Guest). (s.vms.slot u).stand ≡ vacant → d.phase ≡ empty) s.guest v g'
            (λ o. absurd (ticket-vacant s tickets cpu t has (ap (λ u. (s.vms.slot u).stand) at ∙ o)))
            (λ u e. fit.agree.guests.vacant_empty u);
        same_vm = λ u h. same-vm u h;
      };
      tickets =
          record {
            ticket = ticket-of;
            reserved_once = λ u h. once u (tickets.reserved_once u h);
            closing_once = λ u h. once u (tickets.closing_once u h);
          };
    };
    few_slots = fit.few_slots;
    few_vcpus = fit.few_vcpus;
    some_hand =
        put-fact (λ c (d : Cpu). (h : PageRange) → d.hand ≡ Some h → 1 ≤ h.count) s.cpu cpu k' hand'
        (λ c e. fit.some_hand c);
  }
    where
      same-vm : (u : ℕ)
          → (put_at s.guest v g' u).phase ≢ empty
          → IsGuestOf (state_of s.vms s.shared (put_at s.guest v g') (put_at s.cpu cpu k')) u
      same-vm u h = let x =
          put-fact
          (λ w (d : Guest). d.phase ≢ empty
          → (d.generation ≡ (s.vms.slot w).generation) × (d.kind ≡ (s.vms.slot w).kind)) s.guest v g' same
          (λ w e k. let y = fit.agree.guests.same_vm w k in (y.generation, y.kind)) u h in
          record { generation = x.0; kind = x.1 }
