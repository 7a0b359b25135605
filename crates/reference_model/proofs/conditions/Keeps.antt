-- Each reference step keeps the invariant, and so each state of a run is legal and sound.
use Rattle.std.proofs.Common.{◌≡◌, ◌≢◌, ℕ, ◌<◌, refl, ap, sym, ◌∙◌, subst, arith, inl, inr}
use Rattle.std.specs.Prelude.{Bool, true, false, ◌&&◌, nat_lt, option_map, Option, Some, None, if◌then◌else◌}
use Rattle.std.proofs.lemmas.Bool.Decides.{nat_tests}
use Rattle.reference_model.specs.declared.changes.Loaded.{Loaded}
use Rattle.reference_model.specs.declared.changes.Ticket.{Ticket}
use Rattle.reference_model.specs.declared.changes.Stage.{Stage}
use Rattle.reference_model.specs.declared.changes.Stage.TheVariants.{Booked as booked, Closing as closing_vm, Dying as dying_vm}
use Rattle.call_table.specs.declared.reply.Call.{Call}
use Rattle.call_table.specs.declared.step.Step.{Step}
use Rattle.call_table.specs.declared.step.Step.TheVariants.{ShareHyp, UnshareHyp, DonateHyp, HypDonateHost, HostAbort, HostTranslate, HypTranslate, OwnerOf, Fund, Unfund, ShareGuest, UnshareGuest, DonateGuest, GuestShareHost, GuestUnshareHost, Install, Topup, ReclaimPage, ReclaimPool, FinishGuest, GuestRelax, GuestTranslate, MarkDying, VmReserve, VmOpen, VcpuLoad, VcpuPut, Teardown, VmRelease}
use Rattle.call_table.specs.declared.step.VmId.{VmId}
use Rattle.reference_model.specs.model.State.{Cpu, Contents, Reference, empty, put_at, no_vms, no_shared, no_guest}
use Rattle.page_state.specs.Layouts.{Layout, is_memory}
use Rattle.reference_model.specs.model.Parts.{Names, slot_of, loaded_slot, ticket_slot, has_stage, is_good_vm}
use Rattle.reference_model.specs.model.Used.{Used, used_of, put_back}
use Rattle.reference_model.specs.model.Rule.{Rule, reads}
use Rattle.reference_model.specs.model.Rules.{rule, names, guest_slot}
use Rattle.reference_model.specs.model.VmRules.{teardown, vcpu_load}
use Rattle.reference_model.specs.model.Step.{refusal, changed, with_rows, is_touched, own_row, fails, made, Answered, used_by}
use Rattle.reference_model.specs.help.ConditionChanges.{touched_condition}
use Rattle.reference_model.specs.help.RowChanges.{touched_row, with_touched_rows, first_of}
use Rattle.reference_model.specs.model.Changes.{touched}
use Rattle.reference_model.specs.declared.changes.Changes.{Changes}
use Rattle.page_state.specs.declared.row.Row.{Row}
use mathlib.Core.Path.{fun_ext}
use Rattle.reference_model.specs.help.Conditions.{Legal, IsUsable}
use Rattle.reference_model.specs.claims.RunLaws.{LegalKeeps, TouchedRows}
use Rattle.page_state.proofs.Common.{both, and-left}
use Rattle.reference_model.proofs.Steps.{used-self}
use Rattle.reference_model.proofs.conditions.Moves.{LegalAlone, moved-none}
use Rattle.reference_model.proofs.conditions.FrameMoves.{StepKept}
use Rattle.reference_model.proofs.conditions.SharedSteps.{share_hyp-keeps, unshare_hyp-keeps, donate_hyp-keeps, hyp_donate_host-keeps, fund-keeps, unfund-keeps}
use Rattle.reference_model.proofs.conditions.Tests.{passed}
use Rattle.reference_model.proofs.conditions.AbortStep.{host_abort-keeps, host_translate-keeps, hyp_translate-keeps, owner_of-keeps}
use Rattle.reference_model.proofs.conditions.PageSteps.{donate_guest-keeps, share_guest-keeps, guest_share_host-keeps, guest_unshare_host-keeps, unshare_guest-keeps, reclaim_page-keeps}
use Rattle.reference_model.proofs.conditions.PoolSteps.{reclaim_pool-keeps, finish_guest-keeps}
use Rattle.reference_model.proofs.conditions.HandSteps.{install-keeps, topup-keeps}
use Rattle.reference_model.proofs.conditions.AloneSteps.{guest_relax-keeps, guest_translate-keeps, mark_dying-keeps}
use Rattle.reference_model.proofs.conditions.Slots.{loaded-open, ticket-slot}
use Rattle.reference_model.proofs.conditions.VmSteps.{vm_open-keeps, vm_release-keeps, vm_reserve-keeps, teardown-made, has_stage-is}
use Rattle.reference_model.proofs.conditions.Loads.{vcpu_load-made, vcpu_put-keeps}

differ : false ≡ true → ⊥
differ h = cc

no-slot : (v : ℕ) → Some v ≡ None → ⊥
no-slot v h = cc

-- the slot that a step names

pub named-slot : (vm : VmId) (v : ℕ) → slot_of vm ≡ Some v → v < 64
named-slot vm v h = elim (both (nat_lt vm.slot 64)) [
  | inl e ↦ let here : Some vm.slot ≡ Some v = rw e at h in
      let same : vm.slot ≡ v = cc in
      let less : vm.slot < 64 = grind (arith, nat_tests) in
      subst (λ n. n < 64) same less
  | inr e ↦ let bad : None ≡ Some v = rw e at h in cc
]

pub loaded-slot : (k : Cpu) (v : ℕ) → loaded_slot k ≡ Some v → (j : Loaded) × (k.loaded ≡ Some j) × (j.vm.slot ≡ v)
loaded-slot k v h = go (k.loaded) refl
  where
    go : (o : Option Loaded) → k.loaded ≡ o → (j : Loaded) × (k.loaded ≡ Some j) × (j.vm.slot ≡ v)
    go (Some j) e = let here : Some j.vm.slot ≡ Some v =
        sym (ap (λ o. option_map (λ (x : Loaded). x.vm.slot) o) e) ∙ h in
        (j, e, cc)
    go None e = let bad : None ≡ Some v = sym (ap (λ o. option_map (λ (x : Loaded). x.vm.slot) o) e) ∙ h in cc

pub stage-slot : (stage : Stage) (k : Cpu) (v : ℕ)
    → ticket_slot stage k ≡ Some v
    → (t : Ticket) × (k.ticket ≡ Some t) × (t.vm.slot ≡ v) × (t.stage ≡ stage)
stage-slot stage k v h = elim (both (has_stage stage k)) [
  | inl e ↦
      let found = has_stage-is stage k e in
      let here : option_map (λ (x : Ticket). x.vm.slot) k.ticket ≡ Some v = rw e at h in
      let same : Some found.0.vm.slot ≡ Some v =
      sym (ap (λ o. option_map (λ (x : Ticket). x.vm.slot) o) found.1) ∙ here in
      (found.0, found.1, cc, found.2)
  | inr e ↦ let bad : None ≡ Some v = rw e at h in cc
]

-- what a made step leaves

module _ (l : Layout) (usable : IsUsable l) (s : Contents) (legal : Legal l s) (cpu : ℕ)
    (known : cpu < l.config.cpus) where
  abbrev x_at : Option ℕ → Step → Used
  x_at slot step = used_of (names step) slot cpu s

  abbrev Keeps : Option ℕ → Step → Type 0
  Keeps slot step =
      fails l cpu slot step (x_at slot step) ≡ None
      → StepKept l s legal.condition (names step) slot cpu step (rule l cpu slot step (x_at slot step)).changes

  -- a step that lacks its slot isn't made
  lacking : {P : Type 0} (r : Rule) (x : Used) → refusal l.depth r true x ≡ None → P
  lacking r x h = let bad : true ≡ false = (passed l.depth r true x h).lacks_none in cc

  pub loaded-at : (v : ℕ) → loaded_slot (s.cpu cpu) ≡ Some v → (v < 64) × ((s.guest v).phase ≢ empty)
  loaded-at v h =
      let j = loaded-slot (s.cpu cpu) v h in
      let o = loaded-open s legal.slots cpu j.0 j.1 in
      (subst (λ n. n < 64) j.2 o.1, subst (λ n. (s.guest n).phase ≢ empty) j.2 o.2)

  pub staged-at : (stage : Stage) (v : ℕ)
      → ticket_slot stage (s.cpu cpu) ≡ Some v
      → (v < 64) × ((t : Ticket) × ((s.cpu cpu).ticket ≡ Some t) × (t.vm.slot ≡ v) × (t.stage ≡ stage))
  staged-at stage v h = let t = stage-slot stage (s.cpu cpu) v h in
      (subst (λ n. n < 64) t.2 (ticket-slot s legal.slots cpu t.0 t.1), t)

  -- the VM part, where a VmId names one of its slots
  used_if : Bool → Used
  used_if b = record { vms = if b then s.vms else no_vms; shared = no_shared; guest = no_guest; cpu = s.cpu cpu }

  back_if : Bool → Used → Contents
  back_if b x =
      record { vms = if b then x.vms else s.vms; shared = s.shared; guest = s.guest; cpu = put_at s.cpu cpu x.cpu }

  KeepsIf : Step → (Used → Rule) → Bool → Type 0
  KeepsIf step r b =
      refusal l.depth (r (used_if b)) false (used_if b) ≡ None
      → LegalAlone l s legal
      (back_if b
      (with_rows l cpu None step (r (used_if b)).changes (changed l.depth (r (used_if b)).changes (used_if b))))

  keeps-if : (step : Step) (r : Used → Rule) (vm : VmId)
      → ((x : Used) → (r x).valid.passes ≡ true → nat_lt vm.slot 64 ≡ true)
      → KeepsIf step r true
      → KeepsIf step r (nat_lt vm.slot 64)
  unfolding KeepsIf
  keeps-if step r vm low made h = elim (both (nat_lt vm.slot 64)) [
    | inl e ↦ subst
        (λ b. refusal l.depth (r (used_if b)) false (used_if b) ≡ None
        → LegalAlone l s legal
        (back_if b
        (with_rows l cpu None step (r (used_if b)).changes
        (changed l.depth (r (used_if b)).changes (used_if b)))))
        (sym e) made h
    | inr e ↦ absurd
        (let p = passed l.depth (r (used_if (nat_lt vm.slot 64))) false (used_if (nat_lt vm.slot 64)) h in
        let le = low (used_if (nat_lt vm.slot 64)) p.valid in
        go le e)
  ]
    where
      go : nat_lt vm.slot 64 ≡ true → nat_lt vm.slot 64 ≡ false → ⊥
      go a b = let bad : true ≡ false = sym a ∙ b in cc

  -- a step that touches no frame
  alone : {n : Names} {slot : Option ℕ} {step : Step} {h : Changes}
      → LegalAlone l s legal
      (put_back n slot cpu s (with_rows l cpu slot step h (changed l.depth h (used_of n slot cpu s))))
      → ((f : ℕ) → is_touched h f ≡ true → ⊥)
      → StepKept l s legal.condition n slot cpu step h
  alone {n} {slot} {step} {h} kept none =
      record {
        legal = kept.0;
        told = λ f m k. absurd (none f k);
        moved = λ f. kept.1 f
            ∙ moved-none l (touched_condition cpu slot h f) (legal.condition f) f (is_touched h f) (none f);
        whole =
            λ f k. absurd (none f k);
      }

  pub each : (step : Step) (slot : Option ℕ) → slot ≡ guest_slot (s.cpu cpu) step → Keeps slot step
  unfolding rule fails made KeepsIf used_if back_if used_of put_back
  each (ShareHyp f) None e h = share_hyp-keeps l s legal usable cpu f h
  each (UnshareHyp f) None e h = unshare_hyp-keeps l s legal usable cpu f h
  each (DonateHyp f n) None e h = donate_hyp-keeps l s legal usable cpu f n h
  each (HypDonateHost f n) None e h = hyp_donate_host-keeps l s legal usable cpu f n h
  each (HostAbort p) None e h = host_abort-keeps l s legal usable cpu p h
  each (HostTranslate p) None e h = host_translate-keeps l s legal usable cpu p h
  each (HypTranslate p) None e h = hyp_translate-keeps l s legal usable cpu p h
  each (OwnerOf p) None e h = owner_of-keeps l s legal usable cpu p h
  each (Fund f n) None e h = fund-keeps l s legal usable cpu f n known h
  each Unfund None e h = unfund-keeps l s legal usable cpu h
  each (ShareGuest f g p n) (Some v) e h = let a = loaded-at v (sym e) in
      share_guest-keeps l s legal usable cpu v a.0 a.1 f g p n h
  each (UnshareGuest vm g) (Some v) e h = unshare_guest-keeps l s legal usable cpu v (named-slot vm v (sym e)) vm g h
  each (DonateGuest f g n) (Some v) e h = let a = loaded-at v (sym e) in
      donate_guest-keeps l s legal usable cpu v a.0 a.1 f g n h
  each (GuestShareHost g) (Some v) e h = let a = loaded-at v (sym e) in
      guest_share_host-keeps l s legal usable cpu v a.0 a.1 g h
  each (GuestUnshareHost g) (Some v) e h = let a = loaded-at v (sym e) in
      guest_unshare_host-keeps l s legal usable cpu v a.0 a.1 g h
  each Install (Some v) e h = let a = staged-at booked v (sym e) in
      install-keeps l s legal usable cpu v a.0 a.1.0 a.1.1 a.1.2 a.1.3 h
  each (Topup vm) (Some v) e h = topup-keeps l s legal usable cpu v (named-slot vm v (sym e)) vm h
  each (ReclaimPage vm g) (Some v) e h = reclaim_page-keeps l s legal usable cpu v (named-slot vm v (sym e)) vm g h
  each (ReclaimPool vm) (Some v) e h = reclaim_pool-keeps l s legal usable cpu v (named-slot vm v (sym e)) vm h
  each FinishGuest (Some v) e h = let a = staged-at dying_vm v (sym e) in
      finish_guest-keeps l s legal usable cpu v a.0 a.1.0 a.1.1 a.1.2 a.1.3 h
  each (GuestRelax g p) (Some v) e h =
      alone (let a = loaded-at v (sym e) in guest_relax-keeps l s legal usable cpu v a.0 g p a.1 h) (λ f k. differ k)
  each (GuestTranslate vm g) (Some v) e h =
      alone (guest_translate-keeps l s legal usable cpu v (named-slot vm v (sym e)) vm g h) (λ f k. differ k)
  each MarkDying (Some v) e h =
      alone
      (let a = staged-at closing_vm v (sym e) in
      mark_dying-keeps l s legal usable cpu v a.0 a.1.0 a.1.1 a.1.2 a.1.3 h)
      (λ f k. differ k)
  each (VmReserve kind vcpus) None e h = alone (vm_reserve-keeps l s legal cpu kind vcpus h) (λ f k. differ k)
  each VmOpen None e h = alone (vm_open-keeps l s legal cpu h) (λ f k. differ k)
  each (VcpuLoad vm i) None e h =
      alone
      (keeps-if (VcpuLoad vm i) (λ x. vcpu_load vm i (reads l cpu None x)) vm
      (λ x k. and-left (is_good_vm vm) (nat_lt i 8) k) (vcpu_load-made l s legal cpu vm i) h)
      (λ f k. differ k)
  each VcpuPut None e h = alone (vcpu_put-keeps l s legal cpu h) (λ f k. differ k)
  each (Teardown vm) None e h =
      alone
      (keeps-if (Teardown vm) (λ x. teardown vm (reads l cpu None x)) vm (λ x k. k)
      (teardown-made l s legal cpu vm) h)
      (λ f k. differ k)
  each VmRelease None e h = alone (vm_release-keeps l s legal cpu h) (λ f k. differ k)
  each step None e h = lacking (rule l cpu None step (x_at None step)) (x_at None step) h
  each step (Some v) e h = absurd (no-slot v e)

-- what an answered call leaves
answered : (l : Layout) (w : Bool) (s : Contents) (c : Call) (x y : Used)
    → Legal l (put_back (names c.step) c.slot c.cpu s x)
    → (fails l c.cpu c.slot c.step x ≡ None
    → Legal l (put_back (names c.step) c.slot c.cpu s (made l c.cpu c.slot c.step x)))
    → Answered l c.cpu c.slot c.step w x c.reply y
    → Legal l (put_back (names c.step) c.slot c.cpu s y)
answered l w s c x y kept done (inl p) =
    subst (λ z. Legal l (put_back (names c.step) c.slot c.cpu s z)) (sym p.next) (done p.passes)
answered l w s c x y kept done (inr (inl p)) =
    subst (λ z. Legal l (put_back (names c.step) c.slot c.cpu s z)) (sym p.next) kept
answered l w s c x y kept done (inr (inr p)) =
    subst (λ z. Legal l (put_back (names c.step) c.slot c.cpu s z)) (sym p.next) kept

pub legal_keeps : LegalKeeps
unfolding used_of made
legal_keeps l s t c usable known legal steps =
    let kept : Legal l (put_back (names c.step) c.slot c.cpu s.contents (used_by c s)) =
    subst (Legal l) (sym (used-self c s)) legal in
    let done = each l usable s.contents legal c.cpu known c.step c.slot steps.on.slot in
    subst (Legal l) (sym (ap (λ (u : Reference). u.contents) steps.next)) (elim (steps.on.answers) [
      | inl p ↦ subst (λ y. Legal l (put_back (names c.step) c.slot c.cpu s.contents y)) (sym p.next) kept
      | inr p ↦ answered l true s.contents c (used_by c s) steps.after kept (λ h. (done h).legal) p.answered
    ])

abbrev choose : Bool → Row → Row → Row
choose b x y = elim b [ true ↦ x | false ↦ y ]

-- one row by a test of the frame, another by a test of the range's first frame
choose-same : (a b t : Bool) (x y z : Row)
    → (t ≡ true → a ≡ b)
    → (a ≡ true → t ≡ true → x ≡ y)
    → choose (a && t) x z ≡ choose (b && t) y z
choose-same true true true x y z e h = h refl refl
choose-same true false true x y z e h = let bad : true ≡ false = e refl in cc
choose-same false true true x y z e h = let bad : false ≡ true = e refl in cc
choose-same false false true x y z e h = refl
choose-same true true false x y z e h = refl
choose-same true false false x y z e h = refl
choose-same false true false x y z e h = refl
choose-same false false false x y z e h = refl

with-row : Used → (ℕ → Row) → Used
with-row y row = record y { shared = record y.shared { row = row } }

-- the rows that a made step finds again are those that its changes tell
pub touched_rows : TouchedRows
unfolding used_of made with_rows with_touched_rows with-row
touched_rows l s cpu slot step usable known legal named h =
    let x = used_of (names step) slot cpu s in
    let c = (rule l cpu slot step x).changes in
    let y = changed l.depth c x in
    let kept = each l usable s legal cpu known step slot named h in
    ap (with-row y)
    (fun_ext
    (λ f. choose-same (is_memory l f) (is_memory l (first_of (touched c))) (is_touched c f)
    (own_row l cpu slot step y f) (touched_row cpu slot c f) (y.shared.row f) (kept.whole f) (kept.told f)))
