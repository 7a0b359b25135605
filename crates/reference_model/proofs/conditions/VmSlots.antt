-- Slots, loads and tickets through the steps on the VM part.
use Rattle.std.proofs.Common.{◌≡◌, ◌≢◌, ℕ, ◌≤◌, ◌<◌, refl, ap, sym, ◌∙◌, subst, arith, inl, inr}
use Rattle.std.specs.Prelude.{true, false, ◌==◌, ◌⊎◌, Some}
use Rattle.reference_model.specs.declared.changes.Ticket.{Ticket}
use Rattle.reference_model.specs.declared.changes.Loaded.{Loaded}
use Rattle.page_state.specs.declared.entry.PageRange.{PageRange}
use Rattle.reference_model.specs.model.State.{Cpu, Vms, Slot, Contents, empty, live, vacant, opened, reserved, closing, put_at}
use Rattle.reference_model.specs.claims.Sound.{IsOne, IsTicketOf, IsGuestOf, HasLoaded, HasTicket, StageFits}
use Rattle.reference_model.specs.help.Conditions.{SlotsFit}
use Rattle.page_state.proofs.Common.{both, eq-same, if-true}
use Rattle.reference_model.proofs.conditions.Slots.{put-fact, put-here, put-there, apart}

-- the VM part with another slot
abbrev pub slots_with : Vms → ℕ → Slot → Vms
slots_with x v y = record x { slot = put_at x.slot v y }

-- a slot in which nothing is loaded stands in another way, and the CPU takes or gives up its ticket
pub record SlotMove (s : Contents) (cpu v : ℕ) (y : Slot) (k : Cpu) : Type 0 where
  pub low : v < 64
  pub none_before : (i c : ℕ) → (s.vms.slot v).loaded i ≡ Some c → ⊥
  pub none_after : (i c : ℕ) → y.loaded i ≡ Some c → ⊥
  pub same_vm : (s.guest v).phase ≢ empty → ((s.guest v).generation ≡ y.generation) × ((s.guest v).kind ≡ y.kind)
  pub open_live : y.stand ≡ opened → (s.guest v).phase ≡ live
  pub vacant_empty : y.stand ≡ vacant → (s.guest v).phase ≡ empty
  pub mine : (t : Ticket)
      → k.ticket ≡ Some t
      → (t.vm.slot ≡ v)
      × StageFits t.stage y.stand (s.guest v).phase
      × (t.vm.generation ≡ y.generation)
      × (t.kind ≡ y.kind)
  pub others : (c : ℕ) → (c == cpu) ≡ false → HasTicket s v c → ⊥
  pub mine_before : (u : ℕ) → HasTicket s u cpu → u ≡ v
  pub named : (y.stand ≡ reserved) ⊎ (y.stand ≡ closing) → (t : Ticket) × (k.ticket ≡ Some t)
  pub loaded : k.loaded ≡ (s.cpu cpu).loaded
  pub hand : k.hand ≡ (s.cpu cpu).hand

module _ (s : Contents) (fit : SlotsFit s) (cpu v : ℕ) (y : Slot) (k : Cpu) (m : SlotMove s cpu v y k) where
  abbrev s' : Contents
  s' = record { vms = slots_with s.vms v y; shared = s.shared; guest = s.guest; cpu = put_at s.cpu cpu k }

  loaded-same : (c : ℕ) → (put_at s.cpu cpu k c).loaded ≡ (s.cpu c).loaded
  loaded-same = put-fact (λ c (d : Cpu). d.loaded ≡ (s.cpu c).loaded) s.cpu cpu k m.loaded (λ c e. refl)

  slot-there : (u : ℕ) → (u ≡ v → ⊥) → put_at s.vms.slot v y u ≡ s.vms.slot u
  slot-there u n = put-there s.vms.slot v y u (elim (both (u == v)) [ inl e ↦ absurd (n (eq-same u v e)) | inr e ↦ e ])

  has-old : (u c : ℕ) → (c == cpu) ≡ false → HasTicket s' u c → HasTicket s u c
  has-old u c e h = (h.0, ap (λ (d : Cpu). d.ticket) (sym (put-there s.cpu cpu k c e)) ∙ h.1, h.2)

  has-new : (u c : ℕ) → (c == cpu) ≡ false → HasTicket s u c → HasTicket s' u c
  has-new u c e h = (h.0, ap (λ (d : Cpu). d.ticket) (put-there s.cpu cpu k c e) ∙ h.1, h.2)

  has-mine : (u c : ℕ) → (c == cpu) ≡ true → HasTicket s' u c → u ≡ v
  has-mine u c e h =
      sym h.2 ∙ (m.mine h.0 (ap (λ (d : Cpu). d.ticket) (sym (if-true (c == cpu) k (s.cpu c) e)) ∙ h.1)).0

  once-here : (t : Ticket) → k.ticket ≡ Some t → IsOne (HasTicket s' v)
  once-here t h = (
    cpu,
    (t, ap (λ (d : Cpu). d.ticket) (put-here s.cpu cpu k) ∙ h, (m.mine t h).0),
    λ c j. elim (both (c == cpu)) [ inl e ↦ eq-same c cpu e | inr e ↦ absurd (m.others c e (has-old v c e j)) ],
  )

  once-there : (u : ℕ) → (u ≡ v → ⊥) → IsOne (HasTicket s u) → IsOne (HasTicket s' u)
  once-there u n x =
      let off : (x.0 == cpu) ≡ false =
      elim (both (x.0 == cpu))
      [ inr e ↦ e | inl e ↦ absurd (n (m.mine_before u (subst (HasTicket s u) (eq-same x.0 cpu e) x.1))) ] in (
        x.0,
        has-new u x.0 off x.1,
        λ c j. elim (both (c == cpu)) [ inl e ↦ absurd (n (has-mine u c e j)) | inr e ↦ x.2 c (has-old u c e j) ],
      )

  once : (u : ℕ)
      → ((put_at s.vms.slot v y u).stand ≡ reserved) ⊎ ((put_at s.vms.slot v y u).stand ≡ closing)
      → (((s.vms.slot u).stand ≡ reserved) ⊎ ((s.vms.slot u).stand ≡ closing) → IsOne (HasTicket s u))
      → IsOne (HasTicket s' u)
  once u h old = elim (both (u == v)) [
    | inl e ↦
        let is = put-here s.vms.slot v y in
        let here : (y.stand ≡ reserved) ⊎ (y.stand ≡ closing) =
        subst (λ (z : Slot). (z.stand ≡ reserved) ⊎ (z.stand ≡ closing))
        (ap (put_at s.vms.slot v y) (eq-same u v e) ∙ is) h in
        let t = m.named here in
        subst (λ w. IsOne (HasTicket s' w)) (sym (eq-same u v e)) (once-here t.0 t.1)
    | inr e ↦ once-there u (apart u v e)
        (old (subst (λ (z : Slot). (z.stand ≡ reserved) ⊎ (z.stand ≡ closing)) (put-there s.vms.slot v y u e) h))
  ]

  ticket-of : (c : ℕ) (t : Ticket) → (put_at s.cpu cpu k c).ticket ≡ Some t → IsTicketOf s' t
  ticket-of c t h = elim (both (c == cpu)) [
    | inl e ↦
        let x = m.mine t (ap (λ (d : Cpu). d.ticket) (sym (if-true (c == cpu) k (s.cpu c) e)) ∙ h) in
        let is : put_at s.vms.slot v y t.vm.slot ≡ y = ap (put_at s.vms.slot v y) x.0 ∙ put-here s.vms.slot v y in
        record {
          fits =
              subst (λ (z : Slot). StageFits t.stage z.stand (s.guest t.vm.slot).phase) (sym is)
              (subst (λ u. StageFits t.stage y.stand (s.guest u).phase) (sym x.0) x.1);
          generation = x.2 ∙ ap (λ (z : Slot). z.generation) (sym is);
          kind = x.3 ∙ ap (λ (z : Slot). z.kind) (sym is);
        }
    | inr e ↦
        let was : (s.cpu c).ticket ≡ Some t = ap (λ (d : Cpu). d.ticket) (sym (put-there s.cpu cpu k c e)) ∙ h in
        let old = fit.agree.tickets.ticket c t was in
        let is = slot-there t.vm.slot (λ n. m.others c e (t, was, n)) in
        record {
          fits = subst (λ (z : Slot). StageFits t.stage z.stand (s.guest t.vm.slot).phase) (sym is) old.fits;
          generation = old.generation ∙ ap (λ (z : Slot). z.generation) (sym is);
          kind = old.kind ∙ ap (λ (z : Slot). z.kind) (sym is);
        }
  ]

  loads-of : (u i c : ℕ)
      → (put_at s.vms.slot v y u).loaded i ≡ Some c
      → ((put_at s.vms.slot v y u).stand ≡ opened) × HasLoaded s' u i c
  loads-of u i c h = elim (both (u == v)) [
    | inl e ↦ absurd (m.none_after i c (ap (λ (z : Slot). z.loaded i) (sym (if-true (u == v) y (s.vms.slot u) e)) ∙ h))
    | inr e ↦
        let is = put-there s.vms.slot v y u e in
        let x = fit.agree.loads.loads u i c (ap (λ (z : Slot). z.loaded i) (sym is) ∙ h) in
        (ap (λ (z : Slot). z.stand) is ∙ x.0, (x.1.0, loaded-same c ∙ x.1.1, x.1.2, x.1.3))
  ]

  loaded-of : (c : ℕ) (j : Loaded)
      → (put_at s.cpu cpu k c).loaded ≡ Some j
      → ((put_at s.vms.slot v y j.vm.slot).loaded j.vcpu ≡ Some c)
      × ((put_at s.vms.slot v y j.vm.slot).generation ≡ j.vm.generation)
  loaded-of c j h =
      let x = fit.agree.loads.loaded c j (sym (loaded-same c) ∙ h) in
      let is =
      slot-there j.vm.slot (λ n. m.none_before j.vcpu c (ap (λ u. (s.vms.slot u).loaded j.vcpu) (sym n) ∙ x.0)) in
      (ap (λ (z : Slot). z.loaded j.vcpu) is ∙ x.0, ap (λ (z : Slot). z.generation) is ∙ x.1)

  same-vm : (u : ℕ) → (s.guest u).phase ≢ empty → IsGuestOf s' u
  same-vm u h = let x =
      put-fact
      (λ w (z : Slot). (s.guest w).phase ≢ empty
      → ((s.guest w).generation ≡ z.generation) × ((s.guest w).kind ≡ z.kind)) s.vms.slot v y m.same_vm
      (λ w e n. let o = fit.agree.guests.same_vm w n in (o.generation, o.kind)) u h in
      record { generation = x.0; kind = x.1 }

  pub slots-moved : SlotsFit s'
  slots-moved = record {
    agree = record {
      loads = record { loaded = loaded-of; loads = loads-of };
      guests = record {
        open_live =
            put-fact (λ u (z : Slot). z.stand ≡ opened → (s.guest u).phase ≡ live) s.vms.slot v y m.open_live
            (λ u e. fit.agree.guests.open_live u);
        vacant_empty =
            put-fact (λ u (z : Slot). z.stand ≡ vacant → (s.guest u).phase ≡ empty) s.vms.slot v y m.vacant_empty
            (λ u e. fit.agree.guests.vacant_empty u);
        same_vm = same-vm;
      };
      tickets = record {
        ticket = ticket-of;
        reserved_once =
            λ u h. once u (inl h)
            (λ o. elim o
            [ inl a ↦ fit.agree.tickets.reserved_once u a | inr a ↦ fit.agree.tickets.closing_once u a ]);
        closing_once =
            λ u h. once u (inr h)
            (λ o. elim o
            [ inl a ↦ fit.agree.tickets.reserved_once u a | inr a ↦ fit.agree.tickets.closing_once u a ]);
      };
    };
    few_slots =
        put-fact (λ u (z : Slot). 64 ≤ u → z.stand ≡ vacant) s.vms.slot v y
        (λ h. absurd (let low = m.low in omega arith)) (λ u e. fit.few_slots u);
    few_vcpus =
        put-fact (λ u (z : Slot). (i c : ℕ) → z.loaded i ≡ Some c → i < 8) s.vms.slot v y
        (λ i c h. absurd (m.none_after i c h)) (λ u e. fit.few_vcpus u);
    some_hand =
        put-fact (λ c (d : Cpu). (h : PageRange) → d.hand ≡ Some h → 1 ≤ h.count) s.cpu cpu k
        (λ h e. fit.some_hand cpu h (sym m.hand ∙ e)) (λ c e. fit.some_hand c);
  }
