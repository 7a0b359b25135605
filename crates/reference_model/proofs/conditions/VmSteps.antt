-- The made steps on the VM part keep the invariant.
use Rattle.std.proofs.Common.{◌≡◌, ◌≢◌, ℕ, zero, suc, ◌+◌, ◌<◌, refl, ap, sym, ◌∙◌, subst, arith, inl, inr}
use Rattle.std.specs.Prelude.{Bool, true, false, ◌||◌, ◌==◌, ◌⊎◌, is_some, is_none, unwrap_or, Option, Some, None, nat_lt, not}
use Rattle.std.proofs.lemmas.Bool.Decides.{nat_tests}
use Rattle.reference_model.specs.model.Rule.{reads}
use Rattle.reference_model.specs.declared.changes.Ticket.{Ticket}
use Rattle.reference_model.specs.declared.changes.Stage.{Stage}
use Rattle.reference_model.specs.declared.changes.Stage.TheVariants.{Booked as booked, Installed as installed, Closing as closing_vm, Dying as dying_vm, Finished as finished}
use Rattle.call_table.specs.declared.step.Step.TheVariants.{VmReserve, VmOpen, Teardown, VmRelease}
use Rattle.call_table.specs.declared.step.VmId.{VmId}
use Rattle.call_table.specs.declared.step.VmKind.{VmKind}
use Rattle.reference_model.specs.model.GuestRules.{ticket_vm}
use Rattle.page_state.specs.Search.{first_from, all_below}
use Rattle.reference_model.specs.model.State.{Cpu, Slot, Contents, empty, live, Stand, vacant, opened, reserved, closing, put_at, no_slot}
use Rattle.page_state.specs.Layouts.{Layout}
use Rattle.reference_model.specs.model.Owner.{is_in_hand}
use Rattle.reference_model.specs.model.Parts.{vms, has_stage, stage_eq}
use Rattle.reference_model.specs.model.Used.{Used, used_of, put_back}
use Rattle.reference_model.specs.claims.Sound.{HasTicket, StageFits}
use Rattle.reference_model.specs.model.Step.{refusal, changed, with_rows}
use Rattle.reference_model.specs.model.VmRules.{vm_reserve, vm_open, teardown, vm_release, stand_eq, is_open, is_any_loaded, vacant_slot}
use Rattle.reference_model.specs.help.Conditions.{Legal, SlotsFit}
use Rattle.page_state.proofs.Blocks.{all_from-each}
use Rattle.page_state.proofs.Common.{both, eq-same, and-both, not-false, not-true}
use Rattle.reference_model.proofs.conditions.Moves.{LegalAlone, same-agree, cpu-fact}
use Rattle.reference_model.proofs.conditions.Tests.{passed}
use Rattle.reference_model.proofs.conditions.Slots.{ticket-told, ticket-fits, ticket-once, ticket-open, ticket-vacant, ticket-slot, apart}
use Rattle.reference_model.proofs.conditions.VmSlots.{SlotMove, slots-moved}

-- a state whose VM part and CPU changed, but no hand
pub vm-legal : (l : Layout) (s : Contents) (legal : Legal l s) (cpu : ℕ) (z : ℕ → Slot) (k : Cpu)
    → k.hand ≡ (s.cpu cpu).hand
    → SlotsFit (record { vms = record { slot = z }; shared = s.shared; guest = s.guest; cpu = put_at s.cpu cpu k })
    → LegalAlone l s legal
    (record { vms = record { slot = z }; shared = s.shared; guest = s.guest; cpu = put_at s.cpu cpu k })
vm-legal l s legal cpu z k same slots = (
  record {
    condition = legal.condition;
    of_layout = legal.of_layout;
    maps =
        record {
          host = legal.maps.host;
          hyp = legal.maps.hyp;
          hyp_below = legal.maps.hyp_below;
          guest = legal.maps.guest;
          guest_has = legal.maps.guest_has;
        };
    held =
        record {
          shared = legal.held.shared;
          vm = legal.held.vm;
          hand = λ c f. ap (λ h. is_in_hand h f) (cpu-fact (λ (d : Cpu). d.hand) s.cpu cpu k c same)
              ∙ legal.held.hand c f;
        };
    rows = legal.rows;
    trees = record { host = legal.trees.host; hyp = legal.trees.hyp; guest = legal.trees.guest };
    guest_parts = record { blank = legal.guest_parts.blank; rooted = legal.guest_parts.rooted };
    slots =
        record {
          agree = same-agree _ _
              (record {
                slot = λ v. refl;
                phase = λ v. refl;
                generation = λ v. refl;
                kind = λ v. refl;
                loaded = λ c. refl;
                ticket = λ c. refl;
              }) slots.agree;
          few_slots = slots.few_slots;
          few_vcpus = slots.few_vcpus;
          some_hand = slots.some_hand;
        };
  },
  λ f. refl,
)

-- tests

pub stand_eq-same : (a b : Stand) → stand_eq a b ≡ true → a ≡ b
stand_eq-same vacant vacant h = refl
stand_eq-same reserved reserved h = refl
stand_eq-same opened opened h = refl
stand_eq-same closing closing h = refl
stand_eq-same a b h = cc

stage_eq-same : (a b : Stage) → stage_eq a b ≡ true → a ≡ b
stage_eq-same booked booked h = refl
stage_eq-same installed installed h = refl
stage_eq-same closing_vm closing_vm h = refl
stage_eq-same dying_vm dying_vm h = refl
stage_eq-same finished finished h = refl
stage_eq-same a b h = cc

pub has_stage-is : (stage : Stage) (k : Cpu)
    → has_stage stage k ≡ true
    → (t : Ticket) × (k.ticket ≡ Some t) × (t.stage ≡ stage)
has_stage-is stage k h = go (k.ticket) refl
  where
    test : Option Ticket → Bool
    test o = elim o [ Some t ↦ stage_eq t.stage stage | None ↦ false ]

    go : (o : Option Ticket) → k.ticket ≡ o → (t : Ticket) × (k.ticket ≡ Some t) × (t.stage ≡ stage)
    go (Some t) e = (t, e, stage_eq-same t.stage stage (sym (ap (λ o. test o) e) ∙ h))
    go None e = let bad : false ≡ true = sym (ap (λ o. test o) e) ∙ h in cc

pub first-spec : (from n k : ℕ) (test : ℕ → Bool) → first_from from n test ≡ Some k → (test k ≡ true) × (k < from + n)
first-spec from zero k test h = cc
first-spec from (suc n) k test h = elim (both (test from)) [
  | inl e ↦ let here : Some from ≡ Some k = rw (e, first_from) at h in
      let same : from ≡ k = cc in
      (subst (λ j. test j ≡ true) same e, omega arith)
  | inr e ↦ let more : first_from (suc from) n test ≡ Some k = rw (e, first_from) at h in
      let x = first-spec (suc from) n k test more in
      let less = x.1 in
      (x.0, omega arith)
]

pub none-is : {X : Type 0} (o : Option X) → is_none o ≡ true → o ≡ None
none-is None h = refl
none-is (Some x) h = cc

pub some-is : (o : Option ℕ) → is_some o ≡ true → o ≡ Some (unwrap_or o 0)
some-is (Some n) h = refl
some-is None h = cc

some-ticket : {a b : Ticket} → Some a ≡ Some b → a ≡ b
some-ticket h = cc

no-ticket : {P : Type 0} {t : Ticket} → None ≡ Some t → P
no-ticket h = cc

module _ (l : Layout) (s : Contents) (legal : Legal l s) (cpu : ℕ) where
  abbrev pub x : Used
  x = used_of vms None cpu s

  fit : SlotsFit s
  fit = legal.slots

  -- a CPU with a ticket gives it up
  given-up : (t : Ticket) → (s.cpu cpu).ticket ≡ Some t → (y : Slot) (k : Cpu) → ((i c : ℕ) → y.loaded i ≡ Some c → ⊥)
      → ((s.guest t.vm.slot).phase ≢ empty
      → ((s.guest t.vm.slot).generation ≡ y.generation) × ((s.guest t.vm.slot).kind ≡ y.kind))
      → (y.stand ≡ opened → (s.guest t.vm.slot).phase ≡ live) → (y.stand ≡ vacant → (s.guest t.vm.slot).phase ≡ empty)
      → (y.stand ≡ reserved → ⊥)
      → (y.stand ≡ closing → ⊥)
      → k.ticket ≡ None
      → k.loaded ≡ (s.cpu cpu).loaded
      → k.hand ≡ (s.cpu cpu).hand
      → SlotMove s cpu t.vm.slot y k
  given-up t has y k none same up down nr nc ticket loaded hand = record {
    low = ticket-slot s legal.slots cpu t has;
    none_before =
        λ i c h. ticket-open s legal.slots.agree.tickets cpu t has (legal.slots.agree.loads.loads t.vm.slot i c h).0;
    none_after = none;
    same_vm = same;
    open_live = up;
    vacant_empty = down;
    mine = λ u h. no-ticket (sym ticket ∙ h);
    others = λ c e h. let one = ticket-once s legal.slots.agree.tickets cpu t has in
        apart c cpu e (one.2 c h ∙ sym (one.2 cpu (t, has, refl)));
    mine_before = λ u h. let same : t ≡ h.0 = some-ticket (sym has ∙ h.1) in
        sym h.2 ∙ ap (λ (z : Ticket). z.vm.slot) (sym same);
    named = λ h. absurd (elim h [ inl e ↦ nr e | inr e ↦ nc e ]);
    loaded = loaded;
    hand = hand;
  }

  -- a CPU with no ticket gets one, of a slot of which no vCPU is loaded and that no ticket names
  given : (v : ℕ) (y : Slot) (t : Ticket) (k : Cpu)
      → v < 64
      → (s.cpu cpu).ticket ≡ None
      → ((i c : ℕ) → (s.vms.slot v).loaded i ≡ Some c → ⊥)
      → ((i c : ℕ) → y.loaded i ≡ Some c → ⊥)
      → ((c : ℕ) → HasTicket s v c → ⊥)
      → ((s.guest v).phase ≢ empty → ((s.guest v).generation ≡ y.generation) × ((s.guest v).kind ≡ y.kind))
      → (y.stand ≡ opened → (s.guest v).phase ≡ live)
      → (y.stand ≡ vacant → (s.guest v).phase ≡ empty)
      → (t.vm.slot ≡ v)
      × StageFits t.stage y.stand (s.guest v).phase
      × (t.vm.generation ≡ y.generation)
      × (t.kind ≡ y.kind)
      → k.ticket ≡ Some t
      → k.loaded ≡ (s.cpu cpu).loaded
      → k.hand ≡ (s.cpu cpu).hand
      → SlotMove s cpu v y k
  given v y t k low free none none' unnamed same up down fits ticket loaded hand = record {
    low = low;
    none_before = none;
    none_after = none';
    same_vm = same;
    open_live = up;
    vacant_empty = down;
    mine =
        λ u e. subst
        (λ (w : Ticket). (w.vm.slot ≡ v)
        × StageFits w.stage y.stand (s.guest v).phase
        × (w.vm.generation ≡ y.generation)
        × (w.kind ≡ y.kind))
        (some-ticket (sym ticket ∙ e)) fits;
    others = λ c e j. unnamed c j;
    mine_before = λ u j. no-ticket (sym free ∙ j.1);
    named = λ e. (t, ticket);
    loaded = loaded;
    hand = hand;
  }

  unloaded : (t : Ticket) → (s.cpu cpu).ticket ≡ Some t → (i c : ℕ) → (s.vms.slot t.vm.slot).loaded i ≡ Some c → ⊥
  unloaded t has i c h =
      ticket-open s legal.slots.agree.tickets cpu t has (legal.slots.agree.loads.loads t.vm.slot i c h).0

  pub vm_open-keeps : refusal l.depth (vm_open (reads l cpu None x)) false x ≡ None
      → LegalAlone l s legal
      (put_back vms None cpu s
      (with_rows l cpu None VmOpen (vm_open (reads l cpu None x)).changes
      (changed l.depth (vm_open (reads l cpu None x)).changes x)))
  unfolding used_of put_back with_rows changed
  vm_open-keeps h =
      let p = passed l.depth (vm_open (reads l cpu None x)) false x h in
      let found = has_stage-is installed (s.cpu cpu) p.has_vm in
      let t = found.0 in
      let has = found.1 in
      let here = ticket-fits s legal.slots cpu t.vm.slot installed t has refl found.2 in
      let v = (ticket_vm (s.cpu cpu)).slot in
      let at : t.vm.slot ≡ v = ap (λ (n : VmId). n.slot) (sym (ticket-told (s.cpu cpu) t has).0) in
      let k : Cpu = record (s.cpu cpu) { ticket = None } in
      let move : SlotMove s cpu t.vm.slot (record (s.vms.slot t.vm.slot) { stand = opened }) k =
      given-up t has (record (s.vms.slot t.vm.slot) { stand = opened }) k (unloaded t has)
      (λ n. let o = legal.slots.agree.guests.same_vm t.vm.slot n in (o.generation, o.kind)) (λ e. here.1) (λ e. cc)
      (λ e. cc) (λ e. cc) refl refl refl in
      let moved : SlotMove s cpu v (record (s.vms.slot v) { stand = opened }) k =
      subst (λ n. SlotMove s cpu n (record (s.vms.slot n) { stand = opened }) k) at move in
      vm-legal l s legal cpu (put_at s.vms.slot v (record (s.vms.slot v) { stand = opened })) k refl
      (slots-moved s legal.slots cpu v (record (s.vms.slot v) { stand = opened }) k moved)

  pub vm_release-keeps : refusal l.depth (vm_release (reads l cpu None x)) false x ≡ None
      → LegalAlone l s legal
      (put_back vms None cpu s
      (with_rows l cpu None VmRelease (vm_release (reads l cpu None x)).changes
      (changed l.depth (vm_release (reads l cpu None x)).changes x)))
  unfolding used_of put_back with_rows changed
  vm_release-keeps h =
      let p = passed l.depth (vm_release (reads l cpu None x)) false x h in
      let found =
      elim
      (one-of (has_stage booked (s.cpu cpu)) (has_stage finished (s.cpu cpu)) p.has_vm) as (λ _. (t : Ticket)
      × ((s.cpu cpu).ticket ≡ Some t)
      × ((s.guest t.vm.slot).phase ≡ empty)) [
        | inl e ↦
            (let f = has_stage-is booked (s.cpu cpu) e in
            (f.0, f.1, (ticket-fits s legal.slots cpu f.0.vm.slot booked f.0 f.1 refl f.2).1))
        | inr e ↦
            (let f = has_stage-is finished (s.cpu cpu) e in
            (f.0, f.1, (ticket-fits s legal.slots cpu f.0.vm.slot finished f.0 f.1 refl f.2).1))
      ] in
      let t = found.0 in
      let has = found.1 in
      let v = (ticket_vm (s.cpu cpu)).slot in
      let at : t.vm.slot ≡ v = ap (λ (n : VmId). n.slot) (sym (ticket-told (s.cpu cpu) t has).0) in
      let k : Cpu = record (s.cpu cpu) { ticket = None } in
      let y : Slot = no_slot ((ticket_vm (s.cpu cpu)).generation + 1) in
      let move : SlotMove s cpu t.vm.slot y k =
      given-up t has y k (λ i c e. cc) (λ n. absurd (n found.2)) (λ e. cc) (λ e. found.2) (λ e. cc)
      (λ e. cc) refl refl refl in
      let moved : SlotMove s cpu v y k = subst (λ n. SlotMove s cpu n y k) at move in
      vm-legal l s legal cpu (put_at s.vms.slot v y) k refl (slots-moved s legal.slots cpu v y k moved)
    where
      one-of : (a b : Bool) → a || b ≡ true → (a ≡ true) ⊎ (b ≡ true)
      one-of true b h = inl refl
      one-of false b h = inr h

  pub vm_reserve-keeps : (kind : VmKind) (vcpus : ℕ)
      → refusal l.depth (vm_reserve kind vcpus (reads l cpu None x)) false x ≡ None
      → LegalAlone l s legal
      (put_back vms None cpu s
      (with_rows l cpu None (VmReserve kind vcpus) (vm_reserve kind vcpus (reads l cpu None x)).changes
      (changed l.depth (vm_reserve kind vcpus (reads l cpu None x)).changes x)))
  unfolding used_of put_back with_rows changed
  vm_reserve-keeps kind vcpus h =
      let p = passed l.depth (vm_reserve kind vcpus (reads l cpu None x)) false x h in
      let ready = and-both (is_none (s.cpu cpu).ticket) (is_some (vacant_slot s.vms)) p.ready in
      let free : (s.cpu cpu).ticket ≡ None = none-is (s.cpu cpu).ticket ready.0 in
      let v = unwrap_or (vacant_slot s.vms) 0 in
      let found = first-spec 0 64 v (λ u. stand_eq (s.vms.slot u).stand vacant) (some-is (vacant_slot s.vms) ready.1) in
      let stands : (s.vms.slot v).stand ≡ vacant = stand_eq-same (s.vms.slot v).stand vacant found.0 in
      let less = found.1 in
      let none : (i c : ℕ) → (s.vms.slot v).loaded i ≡ Some c → ⊥ =
      λ i c e. (let bad : vacant ≡ opened = sym stands ∙ (legal.slots.agree.loads.loads v i c e).0 in cc) in
      let y : Slot = record (s.vms.slot v) { stand = reserved; kind = kind; vcpus = vcpus } in
      let t : Ticket =
      record { vm = record { slot = v; generation = (s.vms.slot v).generation }; kind = kind; stage = booked } in
      let k : Cpu = record (s.cpu cpu) { ticket = Some t } in
      let phase = legal.slots.agree.guests.vacant_empty v stands in
      let move =
      given v y t k (omega arith) free none none
      (λ c j. ticket-vacant s legal.slots.agree.tickets c j.0 j.1 (ap (λ u. (s.vms.slot u).stand) j.2 ∙ stands))
      (λ n. absurd (n phase)) (λ e. cc) (λ e. phase) (refl, (refl, phase), refl, refl) refl refl refl in
      vm-legal l s legal cpu (put_at s.vms.slot v y) k refl (slots-moved s legal.slots cpu v y k move)

  -- as if the VM part is used: a VmId's slot is one of the 64
  pub teardown-made : (vm : VmId)
      → refusal l.depth (teardown vm (reads l cpu None x)) false x ≡ None
      → LegalAlone l s legal
      (put_back vms None cpu s
      (with_rows l cpu None (Teardown vm) (teardown vm (reads l cpu None x)).changes
      (changed l.depth (teardown vm (reads l cpu None x)).changes x)))
  unfolding used_of put_back with_rows changed
  teardown-made vm h =
      let p = passed l.depth (teardown vm (reads l cpu None x)) false x h in
      let v = vm.slot in
      let up = and-both (stand_eq (s.vms.slot v).stand opened) ((s.vms.slot v).generation == vm.generation) p.has_vm in
      let stands : (s.vms.slot v).stand ≡ opened = stand_eq-same (s.vms.slot v).stand opened up.0 in
      let ready = and-both (is_none (s.cpu cpu).ticket) (not (is_any_loaded (s.vms.slot v))) p.ready in
      let free : (s.cpu cpu).ticket ≡ None = none-is (s.cpu cpu).ticket ready.0 in
      let idle : all_below 8 (λ i. is_none ((s.vms.slot v).loaded i)) ≡ true =
      not-false (all_below 8 (λ i. is_none ((s.vms.slot v).loaded i)))
      (not-true (is_any_loaded (s.vms.slot v)) ready.1) in
      let none : (i c : ℕ) → (s.vms.slot v).loaded i ≡ Some c → ⊥ =
      λ i c e.
      (let less = legal.slots.few_vcpus v i c e in
      let bad : false ≡ true =
      sym (ap is_none e)
      ∙ all_from-each 0 8 (λ j. is_none ((s.vms.slot v).loaded j)) idle i (omega arith)
      (omega arith) in
      cc) in
      let y : Slot = record (s.vms.slot v) { stand = closing } in
      let t : Ticket = record { vm = vm; kind = (s.vms.slot v).kind; stage = closing_vm } in
      let k : Cpu = record (s.cpu cpu) { ticket = Some t } in
      let phase = legal.slots.agree.guests.open_live v stands in
      let low : v < 64 = below v p.valid in
      let same : (s.guest v).phase ≢ empty → ((s.guest v).generation ≡ y.generation) × ((s.guest v).kind ≡ y.kind) =
      λ n. (let o = legal.slots.agree.guests.same_vm v n in (o.generation, o.kind)) in
      let move =
      given v y t k low free none none
      (λ c j. ticket-open s legal.slots.agree.tickets c j.0 j.1
      (ap (λ u. (s.vms.slot u).stand) j.2 ∙ stands)) same
      (λ e. phase) (λ e. cc)
      (refl, (refl, phase), sym (eq-same (s.vms.slot v).generation vm.generation up.1), refl) refl refl
      refl in
      vm-legal l s legal cpu (put_at s.vms.slot v y) k refl (slots-moved s legal.slots cpu v y k move)
    where
      below : (n : ℕ) → nat_lt n 64 ≡ true → n < 64
      below n h = grind (arith, nat_tests)
