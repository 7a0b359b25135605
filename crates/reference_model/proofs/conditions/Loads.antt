-- Loading a vCPU and putting it back keep the invariant.
use Rattle.std.proofs.Common.{◌≡◌, ◌≢◌, ℕ, ◌≤◌, ◌<◌, refl, ap, sym, ◌∙◌, subst, arith, inl, inr}
use Rattle.std.specs.Prelude.{false, ◌==◌, ◌⊎◌, is_some, is_none, unwrap_or, Option, Some, None, nat_lt, true}
use Rattle.std.proofs.lemmas.Bool.Decides.{nat_tests}
use Rattle.reference_model.specs.model.Rule.{reads}
use Rattle.reference_model.specs.declared.changes.Ticket.{Ticket}
use Rattle.reference_model.specs.declared.changes.Loaded.{Loaded}
use Rattle.page_state.specs.declared.entry.PageRange.{PageRange}
use Rattle.call_table.specs.declared.step.Step.TheVariants.{VcpuLoad, VcpuPut}
use Rattle.call_table.specs.declared.step.VmId.{VmId}
use Rattle.reference_model.specs.model.State.{Cpu, Slot, Contents, empty, opened, put_at}
use Rattle.page_state.specs.Layouts.{Layout}
use Rattle.reference_model.specs.model.Parts.{vms, is_good_vm}
use Rattle.reference_model.specs.model.Used.{Used, used_of, put_back}
use Rattle.reference_model.specs.claims.Sound.{IsOne, LoadsAgree, IsTicketOf, IsGuestOf, HasTicket, StageFits}
use Rattle.reference_model.specs.model.Step.{refusal, changed, with_rows}
use Rattle.reference_model.specs.model.VmRules.{vcpu_load, vcpu_put, stand_eq, is_open, load_of}
use Rattle.reference_model.specs.help.Conditions.{Legal, SlotsFit}
use Rattle.reference_model.proofs.conditions.Moves.{LegalAlone}
use Rattle.page_state.proofs.Common.{both, eq-same, if-true, if-false, and-both}
use Rattle.reference_model.proofs.conditions.Tests.{passed}
use Rattle.reference_model.proofs.conditions.Slots.{put-fact, put-here, put-there, apart}
use Rattle.reference_model.proofs.conditions.VmSteps.{vm-legal, stand_eq-same, none-is}

-- slots whose loads alone change
module _ (s : Contents) (fit : SlotsFit s) (cpu : ℕ) (z : ℕ → Slot) (k : Cpu)
    (stand : (v : ℕ) → (z v).stand ≡ (s.vms.slot v).stand)
    (generation : (v : ℕ) → (z v).generation ≡ (s.vms.slot v).generation)
    (kind : (v : ℕ) → (z v).kind ≡ (s.vms.slot v).kind) (ticket : k.ticket ≡ (s.cpu cpu).ticket)
    (hand : k.hand ≡ (s.cpu cpu).hand) where
  abbrev pub s' : Contents
  s' = record { vms = record { slot = z }; shared = s.shared; guest = s.guest; cpu = put_at s.cpu cpu k }

  ticket-same : (c : ℕ) → (put_at s.cpu cpu k c).ticket ≡ (s.cpu c).ticket
  ticket-same = put-fact (λ c (d : Cpu). d.ticket ≡ (s.cpu c).ticket) s.cpu cpu k ticket (λ c e. refl)

  same_vm : (v : ℕ) → (s.guest v).phase ≢ empty → IsGuestOf s' v
  same_vm v h = let x = fit.agree.guests.same_vm v h in
      record { generation = x.generation ∙ sym (generation v); kind = x.kind ∙ sym (kind v) }

  once : (v : ℕ) → IsOne (HasTicket s v) → IsOne (HasTicket s' v)
  once v x = (x.0, (x.1.0, ticket-same x.0 ∙ x.1.1, x.1.2), λ c h. x.2 c (h.0, sym (ticket-same c) ∙ h.1, h.2))

  ticket-of : (c : ℕ) (t : Ticket) → (put_at s.cpu cpu k c).ticket ≡ Some t → IsTicketOf s' t
  ticket-of c t h = let x = fit.agree.tickets.ticket c t (sym (ticket-same c) ∙ h) in record {
    fits = subst (λ a. StageFits t.stage a (s.guest t.vm.slot).phase) (sym (stand t.vm.slot)) x.fits;
    generation = x.generation ∙ sym (generation t.vm.slot);
    kind = x.kind ∙ sym (kind t.vm.slot);
  }

  pub loads-changed : LoadsAgree s' → ((v i c : ℕ) → (z v).loaded i ≡ Some c → i < 8) → SlotsFit s'
  loads-changed loads few = record {
    agree = record {
      loads = loads;
      guests =
          record {
            open_live = λ v h. fit.agree.guests.open_live v (sym (stand v) ∙ h);
            vacant_empty = λ v h. fit.agree.guests.vacant_empty v (sym (stand v) ∙ h);
            same_vm = same_vm;
          };
      tickets =
          record {
            ticket = ticket-of;
            reserved_once =
                λ v h. once v (fit.agree.tickets.reserved_once v (sym (stand v) ∙ h));
            closing_once =
                λ v h. once v (fit.agree.tickets.closing_once v (sym (stand v) ∙ h));
          };
    };
    few_slots = λ v h. stand v ∙ fit.few_slots v h;
    few_vcpus = few;
    some_hand =
        put-fact (λ c (d : Cpu). (h : PageRange) → d.hand ≡ Some h → 1 ≤ h.count) s.cpu cpu k
        (λ h e. fit.some_hand cpu h (sym hand ∙ e)) (λ c e. fit.some_hand c);
  }

some-loaded : {a b : Loaded} → Some a ≡ Some b → a ≡ b
some-loaded h = cc

some-same : {a b : ℕ} → Some a ≡ Some b → a ≡ b
some-same h = cc

none-loaded : {P : Type 0} {a : Loaded} → None ≡ Some a → P
none-loaded h = cc

none-some : {P : Type 0} {a : ℕ} → None ≡ Some a → P
none-some h = cc

module _ (l : Layout) (s : Contents) (legal : Legal l s) (cpu : ℕ) where
  abbrev pub x : Used
  x = used_of vms None cpu s

  module _ (vm : VmId) (i : ℕ) (few : i < 8) (up : (s.vms.slot vm.slot).stand ≡ opened)
      (named : (s.vms.slot vm.slot).generation ≡ vm.generation) (idle : (s.cpu cpu).loaded ≡ None)
      (free : (s.vms.slot vm.slot).loaded i ≡ None) where
    v : ℕ
    v = vm.slot

    abbrev y : Slot
    y = record (s.vms.slot vm.slot) { loaded = put_at (s.vms.slot vm.slot).loaded i (Some cpu) }

    abbrev k : Cpu
    k = record (s.cpu cpu) { loaded = Some (record { vm = vm; vcpu = i }) }

    abbrev z : ℕ → Slot
    z = put_at s.vms.slot vm.slot y

    abbrev after : Contents
    after = record { vms = record { slot = z }; shared = s.shared; guest = s.guest; cpu = put_at s.cpu cpu k }

    -- what was loaded stays so
    stays : (u j c : ℕ) → (s.vms.slot u).loaded j ≡ Some c → (z u).loaded j ≡ Some c
    stays u j c h = elim (both (u == vm.slot)) [
      | inr e ↦ ap (λ (w : Slot). w.loaded j) (put-there s.vms.slot vm.slot y u e) ∙ h
      | inl e ↦
          let same : u ≡ vm.slot = eq-same u vm.slot e in
          let was : (s.vms.slot vm.slot).loaded j ≡ Some c = ap (λ n. (s.vms.slot n).loaded j) (sym same) ∙ h in
          ap (λ (w : Slot). w.loaded j) (if-true (u == vm.slot) y (s.vms.slot u) e) ∙ elim (both (j == i)) [
            | inl q ↦ none-some (sym free ∙ ap (s.vms.slot vm.slot).loaded (sym (eq-same j i q)) ∙ was)
            | inr q ↦ if-false (j == i) (Some cpu) ((s.vms.slot vm.slot).loaded j) q ∙ was
          ]
    ]

    other-cpu : (c : ℕ) (j : Loaded) → (s.cpu c).loaded ≡ Some j → (put_at s.cpu cpu k c).loaded ≡ Some j
    other-cpu c j h = elim (both (c == cpu)) [
      | inl e ↦ none-loaded (sym idle ∙ ap (λ d. (s.cpu d).loaded) (sym (eq-same c cpu e)) ∙ h)
      | inr e ↦ ap (λ (d : Cpu). d.loaded) (put-there s.cpu cpu k c e) ∙ h
    ]

    -- what is loaded was, or is the new one
    was-loaded : (u j c : ℕ)
        → (z u).loaded j ≡ Some c
        → ((s.vms.slot u).loaded j ≡ Some c) ⊎ ((u ≡ vm.slot) × (j ≡ i) × (c ≡ cpu))
    was-loaded u j c h = elim (both (u == vm.slot)) [
      | inr e ↦ inl (ap (λ (w : Slot). w.loaded j) (sym (put-there s.vms.slot vm.slot y u e)) ∙ h)
      | inl e ↦
          let here : put_at (s.vms.slot vm.slot).loaded i (Some cpu) j ≡ Some c =
          ap (λ (w : Slot). w.loaded j) (sym (if-true (u == vm.slot) y (s.vms.slot u) e)) ∙ h in
          elim (both (j == i)) [
            | inl q ↦ inr (
              eq-same u vm.slot e,
              eq-same j i q,
              sym (some-same (sym (if-true (j == i) (Some cpu) ((s.vms.slot vm.slot).loaded j) q) ∙ here)),
            )
            | inr q ↦ inl
                (ap (λ n. (s.vms.slot n).loaded j) (eq-same u vm.slot e)
                ∙ sym (if-false (j == i) (Some cpu) ((s.vms.slot vm.slot).loaded j) q) ∙ here)
          ]
    ]

    stand : (u : ℕ) → (z u).stand ≡ (s.vms.slot u).stand
    stand = put-fact (λ u (w : Slot). w.stand ≡ (s.vms.slot u).stand) s.vms.slot vm.slot y refl (λ u e. refl)

    generation : (u : ℕ) → (z u).generation ≡ (s.vms.slot u).generation
    generation =
        put-fact (λ u (w : Slot). w.generation ≡ (s.vms.slot u).generation) s.vms.slot vm.slot y refl (λ u e. refl)

    kind : (u : ℕ) → (z u).kind ≡ (s.vms.slot u).kind
    kind = put-fact (λ u (w : Slot). w.kind ≡ (s.vms.slot u).kind) s.vms.slot vm.slot y refl (λ u e. refl)

    loads : LoadsAgree after
    loads = record {
      loaded = λ c j h. elim (both (c == cpu)) [
        | inl e ↦
            let made : Loaded = record { vm = vm; vcpu = i } in
            let same : made ≡ j =
            some-loaded (ap (λ (d : Cpu). d.loaded) (sym (if-true (c == cpu) k (s.cpu c) e)) ∙ h) in
            let here : (z vm.slot).loaded i ≡ Some c =
            ap (λ (w : Slot). w.loaded i) (put-here s.vms.slot vm.slot y)
            ∙ put-here (s.vms.slot vm.slot).loaded i (Some cpu) ∙ ap Some (sym (eq-same c cpu e)) in
            subst
            (λ (w : Loaded). ((z w.vm.slot).loaded w.vcpu ≡ Some c)
            × ((z w.vm.slot).generation ≡ w.vm.generation)) same
            (here, generation vm.slot ∙ named)
        | inr e ↦
            let o =
            legal.slots.agree.loads.loaded c j (ap (λ (d : Cpu). d.loaded) (sym (put-there s.cpu cpu k c e)) ∙ h) in
            (stays j.vm.slot j.vcpu c o.0, generation j.vm.slot ∙ o.1)
      ];
      loads = λ u j c h. elim (was-loaded u j c h) [
        | inl o ↦ let a = legal.slots.agree.loads.loads u j c o in
            (stand u ∙ a.0, (a.1.0, other-cpu c a.1.0 a.1.1, a.1.2, a.1.3))
        | inr o ↦
            let made : Loaded = record { vm = vm; vcpu = i } in (
              stand u ∙ ap (λ n. (s.vms.slot n).stand) o.0
                  ∙ up,
              (
                made,
                ap (λ n. (put_at s.cpu cpu k n).loaded) o.2
                    ∙ ap (λ (d : Cpu). d.loaded) (put-here s.cpu cpu k),
                sym o.0,
                sym o.1,
              ),
            )
      ];
    }

    loaded-fit : SlotsFit after
    loaded-fit =
        loads-changed s legal.slots cpu z k stand generation kind refl refl loads
        (λ u j c h. elim (was-loaded u j c h)
        [ inl o ↦ legal.slots.few_vcpus u j c o | inr o ↦ subst (λ n. n < 8) (sym o.1) few ])

  -- as if the VM part is used: a VmId's slot is one of the 64
  pub vcpu_load-made : (vm : VmId) (i : ℕ)
      → refusal l.depth (vcpu_load vm i (reads l cpu None x)) false x ≡ None
      → LegalAlone l s legal
      (put_back vms None cpu s
      (with_rows l cpu None (VcpuLoad vm i) (vcpu_load vm i (reads l cpu None x)).changes
      (changed l.depth (vcpu_load vm i (reads l cpu None x)).changes x)))
  unfolding used_of put_back with_rows changed
  vcpu_load-made vm i h =
      let p = passed l.depth (vcpu_load vm i (reads l cpu None x)) false x h in
      let args = and-both (is_good_vm vm) (nat_lt i 8) p.valid in
      let up =
      and-both (stand_eq (s.vms.slot vm.slot).stand opened)
      ((s.vms.slot vm.slot).generation == vm.generation) p.has_vm in
      let ready = and-both (is_none (s.cpu cpu).loaded) (is_none ((s.vms.slot vm.slot).loaded i)) p.ready in
      vm-legal l s legal cpu
      (put_at s.vms.slot vm.slot
      (record (s.vms.slot vm.slot) { loaded = put_at (s.vms.slot vm.slot).loaded i (Some cpu) }))
      (record (s.cpu cpu) { loaded = Some (record { vm = vm; vcpu = i }) }) refl
      (loaded-fit vm i (below i args.1) (stand_eq-same (s.vms.slot vm.slot).stand opened up.0)
      (eq-same (s.vms.slot vm.slot).generation vm.generation up.1) (none-is (s.cpu cpu).loaded ready.0)
      (none-is ((s.vms.slot vm.slot).loaded i) ready.1))
    where
      below : (i : ℕ) → nat_lt i 8 ≡ true → i < 8
      below i h = grind (arith, nat_tests)

  module _ (j : Loaded) (has : (s.cpu cpu).loaded ≡ Some j) where
    abbrev y' : Slot
    y' = record (s.vms.slot j.vm.slot) { loaded = put_at (s.vms.slot j.vm.slot).loaded j.vcpu None }

    abbrev k' : Cpu
    k' = record (s.cpu cpu) { loaded = None }

    abbrev z' : ℕ → Slot
    z' = put_at s.vms.slot j.vm.slot y'

    abbrev after' : Contents
    after' = record { vms = record { slot = z' }; shared = s.shared; guest = s.guest; cpu = put_at s.cpu cpu k' }

    stand' : (u : ℕ) → (z' u).stand ≡ (s.vms.slot u).stand
    stand' = put-fact (λ u (w : Slot). w.stand ≡ (s.vms.slot u).stand) s.vms.slot j.vm.slot y' refl (λ u e. refl)

    generation' : (u : ℕ) → (z' u).generation ≡ (s.vms.slot u).generation
    generation' =
        put-fact (λ u (w : Slot). w.generation ≡ (s.vms.slot u).generation) s.vms.slot j.vm.slot y' refl (λ u e. refl)

    kind' : (u : ℕ) → (z' u).kind ≡ (s.vms.slot u).kind
    kind' = put-fact (λ u (w : Slot). w.kind ≡ (s.vms.slot u).kind) s.vms.slot j.vm.slot y' refl (λ u e. refl)

    was-there : (s.vms.slot j.vm.slot).loaded j.vcpu ≡ Some cpu
    was-there = (legal.slots.agree.loads.loaded cpu j has).0

    -- what another CPU has loaded stays
    kept : (u a c : ℕ) → (c == cpu) ≡ false → (s.vms.slot u).loaded a ≡ Some c → (z' u).loaded a ≡ Some c
    kept u a c off h = elim (both (u == j.vm.slot)) [
      | inr e ↦ ap (λ (w : Slot). w.loaded a) (put-there s.vms.slot j.vm.slot y' u e) ∙ h
      | inl e ↦
          let same : u ≡ j.vm.slot = eq-same u j.vm.slot e in
          let was : (s.vms.slot j.vm.slot).loaded a ≡ Some c = ap (λ n. (s.vms.slot n).loaded a) (sym same) ∙ h in
          ap (λ (w : Slot). w.loaded a) (if-true (u == j.vm.slot) y' (s.vms.slot u) e) ∙ elim (both (a == j.vcpu)) [
            | inl q ↦ absurd
                (apart c cpu off
                (some-same (sym was ∙ ap (s.vms.slot j.vm.slot).loaded (eq-same a j.vcpu q) ∙ was-there)))
            | inr q ↦ if-false (a == j.vcpu) None ((s.vms.slot j.vm.slot).loaded a) q ∙ was
          ]
    ]

    -- what is loaded was, and not by this CPU
    was-kept : (u a c : ℕ)
        → (z' u).loaded a ≡ Some c
        → ((s.vms.slot u).loaded a ≡ Some c) × ((u ≡ j.vm.slot) × (a ≡ j.vcpu) → ⊥)
    was-kept u a c h = elim (both (u == j.vm.slot)) [
      | inr e ↦ (
        ap (λ (w : Slot). w.loaded a) (sym (put-there s.vms.slot j.vm.slot y' u e))
            ∙ h,
        λ n. apart u j.vm.slot e n.0,
      )
      | inl e ↦
          let here : put_at (s.vms.slot j.vm.slot).loaded j.vcpu None a ≡ Some c =
          ap (λ (w : Slot). w.loaded a) (sym (if-true (u == j.vm.slot) y' (s.vms.slot u) e)) ∙ h in
          elim (both (a == j.vcpu)) [
            | inl q ↦ none-some (sym (if-true (a == j.vcpu) None ((s.vms.slot j.vm.slot).loaded a) q) ∙ here)
            | inr q ↦ (
              ap (λ n. (s.vms.slot n).loaded a) (eq-same u j.vm.slot e)
                  ∙ sym (if-false (a == j.vcpu) None ((s.vms.slot j.vm.slot).loaded a) q)
                  ∙ here,
              λ n. apart a j.vcpu q n.1,
            )
          ]
    ]

    loads' : LoadsAgree after'
    loads' = record {
      loaded = λ c w h. elim (both (c == cpu)) [
        | inl e ↦ none-loaded (ap (λ (d : Cpu). d.loaded) (sym (if-true (c == cpu) k' (s.cpu c) e)) ∙ h)
        | inr e ↦ let o =
            legal.slots.agree.loads.loaded c w (ap (λ (d : Cpu). d.loaded) (sym (put-there s.cpu cpu k' c e)) ∙ h) in
            (kept w.vm.slot w.vcpu c e o.0, generation' w.vm.slot ∙ o.1)
      ];
      loads = λ u a c h.
          let was = was-kept u a c h in
          let o = legal.slots.agree.loads.loads u a c was.0 in
          let off : (c == cpu) ≡ false = elim (both (c == cpu)) [
            | inr e ↦ e
            | inl e ↦ absurd
                (let same : j ≡ o.1.0 =
                some-loaded (sym has ∙ ap (λ n. (s.cpu n).loaded) (sym (eq-same c cpu e)) ∙ o.1.1) in
                was.1 (
                  sym o.1.2 ∙ ap (λ (w : Loaded). w.vm.slot) (sym same),
                  sym o.1.3
                      ∙ ap (λ (w : Loaded). w.vcpu) (sym same),
                ))
          ] in
          (stand' u ∙ o.0, (o.1.0, ap (λ (d : Cpu). d.loaded) (put-there s.cpu cpu k' c off) ∙ o.1.1, o.1.2, o.1.3));
    }

    put-fit : SlotsFit after'
    put-fit =
        loads-changed s legal.slots cpu z' k' stand' generation' kind' refl refl loads'
        (λ u a c h. legal.slots.few_vcpus u a c (was-kept u a c h).0)

    put-legal : LegalAlone l s legal
        (record { vms = record { slot = z' }; shared = s.shared; guest = s.guest; cpu = put_at s.cpu cpu k' })
    put-legal = vm-legal l s legal cpu z' k' refl put-fit

  loaded-is : (o : Option Loaded) (d : Loaded) → is_some o ≡ true → o ≡ Some (unwrap_or o d)
  loaded-is (Some w) d h = refl
  loaded-is None d h = cc

  pub vcpu_put-keeps : refusal l.depth (vcpu_put (reads l cpu None x)) false x ≡ None
      → LegalAlone l s legal
      (put_back vms None cpu s
      (with_rows l cpu None VcpuPut (vcpu_put (reads l cpu None x)).changes
      (changed l.depth (vcpu_put (reads l cpu None x)).changes x)))
  unfolding used_of put_back with_rows changed
  vcpu_put-keeps h =
      let p = passed l.depth (vcpu_put (reads l cpu None x)) false x h in
      put-legal (load_of (s.cpu cpu)) (loaded-is (s.cpu cpu).loaded _ p.has_vm)
