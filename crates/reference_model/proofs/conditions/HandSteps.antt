-- The made steps that move a CPU's hand into a guest keep the invariant.
use Rattle.std.proofs.Common.{◌≡◌, ℕ, zero, suc, ◌+◌, ◌≤◌, ◌<◌, refl, ap, sym, ◌∙◌, subst, arith, inl, inr, length}
use Rattle.std.specs.Prelude.{true, false, Some, None, is_some, nat_le}
use Rattle.descriptor.specs.declared.State.{State}
use Rattle.reference_model.specs.model.Rule.{reads}
use Rattle.reference_model.specs.declared.changes.Ticket.{Ticket}
use Rattle.reference_model.specs.declared.changes.Stage.TheVariants.{Booked as booked, Installed as installed}
use Rattle.page_state.specs.declared.entry.Entry.TheVariants.{Unmapped}
use Rattle.page_state.specs.declared.entry.PageRange.{PageRange}
use Rattle.page_state.specs.declared.row.Usage.TheVariants.{VmPool, InHand}
use Rattle.call_table.specs.declared.step.Step.TheVariants.{Install, Topup}
use Rattle.call_table.specs.declared.step.VmId.{VmId}
use Rattle.page_state.specs.Trees.{frames_from, root_tree}
use Rattle.page_state.specs.Counts.{is_one, frame_count}
use Rattle.page_state.specs.EntryTests.{leaf}
use Rattle.reference_model.specs.model.GuestRules.{moved_on, install, topup, guest_table_count, ticket_vm, ticket_kind}
use Rattle.reference_model.specs.declared.changes.CpuChange.{CpuChange}
use Rattle.reference_model.specs.declared.changes.GuestChange.{GuestChange}
use Rattle.reference_model.specs.declared.changes.GuestChange.TheVariants.{Install as Begin, Gain}
use Rattle.reference_model.specs.declared.changes.Update.TheVariants.{Becomes}
use Rattle.reference_model.specs.model.Changes.{cpu_by, no_changes, rest, frames_in}
use Rattle.page_state.specs.Map.{is_within}
use Rattle.reference_model.specs.model.SharedRules.{hand_of, hand_becomes}
use Rattle.reference_model.specs.model.State.{Guest, Contents, no_guest}
use Rattle.page_state.specs.Layouts.{Layout}
use Rattle.reference_model.specs.model.Parts.{shared_and_guest}
use Rattle.reference_model.specs.model.Used.{Used, used_of}
use Rattle.reference_model.specs.model.Step.{refusal, guest_after}
use Rattle.page_state.specs.Tables.{all_given, needs, freed, returned, edited}
use Rattle.reference_model.specs.help.Conditions.{Condition, hyps, HostFits, hyp_entry_by, guest_condition, Legal, IsUsable, in_shared, in_vm, one, table_uses, guest_uses}
use Rattle.page_state.proofs.Common.{both, eq-self, and-left}
use Rattle.page_state.proofs.Counts.{count_next}
use Rattle.coarse_trees.proofs.Stays.{root_is_coarsest}
use Rattle.reference_model.proofs.conditions.Conserved.{all_given-count}
use Rattle.reference_model.proofs.conditions.Tables.{uses_of}
use Rattle.reference_model.proofs.conditions.Moves.{moved_to, always, is_pageless, guest-kept, has-kept, moved-in, moved-out, moved-fact}
use Rattle.reference_model.proofs.conditions.FrameMoves.{StepKept, FramesMove, no-uses}
use Rattle.reference_model.proofs.conditions.GuestMoves.{only, g_of, new_guest, new_cpu, GuestMove, guest-keeps, slots-stay}
use Rattle.reference_model.proofs.conditions.PageSteps.{stands-alive}
use Rattle.reference_model.proofs.conditions.RangeMoves.{hand-range, hand-some, hand-was, memory-of, hands-emptied}
use Rattle.reference_model.proofs.conditions.Tests.{Passed, passed}
use Rattle.reference_model.proofs.conditions.Slots.{ticket-told, ticket-fits, slots-turn}
use Rattle.reference_model.proofs.conditions.PoolSteps.{count-frames, root-uses, root-none, root-here, turned}

pub root-table-uses : (depth root f : ℕ) → table_uses depth (root_tree depth root) f ≡ is_one root f
unfolding table_uses uses_of
root-table-uses depth root f =
    root-uses depth root f (root_tree depth root).table (root-none depth root) (root-here depth root)

-- the frames of a range with some, as its first and the rest
rest-count : (first n f : ℕ)
    → 1 ≤ n
    → is_one first f + frame_count f (rest (frames_from first n)) ≡ one (is_within first n f)
rest-count first zero f h = absurd (omega arith)
rest-count first (suc n) f h = sym (count_next f first (frames_from (first + 1) n)) ∙ count-frames first (suc n) f

module _ (l : Layout) (s : Contents) (legal : Legal l s) (usable : IsUsable l) (cpu v : ℕ) (slot : v < 64) where
  abbrev pub x : Used
  x = g_of v cpu s

  abbrev pub hand : PageRange
  hand = hand_of (s.cpu cpu)

  abbrev after : ℕ → Condition
  after = moved_to (always (hyps (VmPool v))) hand.first.0 hand.count legal.condition

  module _ (some : is_some (s.cpu cpu).hand ≡ true) where
    was : (q : ℕ) → is_within hand.first.0 hand.count q ≡ true → legal.condition q ≡ hyps (InHand cpu)
    was = hand-was legal cpu some

    -- the host's map says the same of a frame of the hypervisor's in another use
    host-same : (p : ℕ) → HostFits p (after p) (s.shared.host.map p)
    host-same p = elim (both (is_within hand.first.0 hand.count p)) [
      | inl w ↦
          let old : HostFits p (hyps (InHand cpu)) (s.shared.host.map p) =
          subst (λ c. HostFits p c (s.shared.host.map p)) (was p w) (legal.maps.host p) in
          let new : HostFits p (hyps (VmPool v)) (s.shared.host.map p) = old in
          subst (λ c. HostFits p c (s.shared.host.map p))
          (sym (moved-in (always (hyps (VmPool v))) hand.first.0 hand.count legal.condition p w)) new
      | inr w ↦ subst (λ c. HostFits p c (s.shared.host.map p))
          (sym (moved-out (always (hyps (VmPool v))) hand.first.0 hand.count legal.condition p w)) (legal.maps.host p)
    ]

    -- the frames of the hand go to the guest's pool
    hand-frames : (part : GuestChange) (k : CpuChange)
        → (cpu_by k (s.cpu cpu)).hand ≡ None
        → FramesMove l s legal.condition cpu (Some v)
        (record no_changes { part = part; cpu = k; moved = (s.cpu cpu).hand }) hand.first.0 hand.count
        (always (hyps (VmPool v)))
    hand-frames part k none = record {
      inside = memory-of legal (hyps (InHand cpu)) refl hand.first.0 hand.count was;
      alike = λ q k w z. refl;
      good = λ q w. slot;
      same_use = λ q w. ap in_shared (was q w);
      host = host-same;
      hyp =
          λ f. legal.maps.hyp f
          ∙ moved-fact (hyp_entry_by f) (always (hyps (VmPool v))) hand.first.0 hand.count legal.condition f
          (λ w. ap (hyp_entry_by f) (was f w));
      hyp_below = legal.maps.hyp_below;
      touched = λ q. hand-range (s.cpu cpu).hand q some;
      told = λ q w. refl;
      goes = λ q w m. refl;
      host_range = tt;
      hyp_range = tt;
      hand = hands-emptied legal cpu k (hyps (VmPool v)) none some (λ d. refl);
      own_hand = λ d q w h. cc;
    }

    has-same : (p q : ℕ) (state : State)
        → after q ≡ guest_condition state v p
        → legal.condition q ≡ guest_condition state v p
    has-same p q state = has-kept (hyps (VmPool v)) hand.first.0 hand.count legal.condition refl v p q state

    -- the guest's count grows by the frames of the hand
    grown : (q : ℕ)
        → one (is_within hand.first.0 hand.count q) + guest_uses l.depth (s.guest v) q ≡ one (in_vm v (after q))
    grown q = elim (both (is_within hand.first.0 hand.count q)) [
      | inl w ↦
          let a : one (is_within hand.first.0 hand.count q) ≡ 1 = ap one w in
          let b : guest_uses l.depth (s.guest v) q ≡ 0 = legal.held.vm v q ∙ ap (λ c. one (in_vm v c)) (was q w) in
          let c : one (in_vm v (after q)) ≡ 1 =
          ap (λ d. one (in_vm v d))
          (moved-in (always (hyps (VmPool v))) hand.first.0 hand.count legal.condition q w)
          ∙ ap one (eq-self v) in
          omega arith
      | inr w ↦
          let a : one (is_within hand.first.0 hand.count q) ≡ 0 = ap one w in
          let b = legal.held.vm v q in
          let c : one (in_vm v (after q)) ≡ one (in_vm v (legal.condition q)) =
          ap (λ d. one (in_vm v d))
          (moved-out (always (hyps (VmPool v))) hand.first.0 hand.count legal.condition q w) in
          omega arith
    ]

  topup-move : (vm : VmId)
      → Passed l.depth (topup vm (reads l cpu (Some v) x)) false x
      → GuestMove l s legal.condition cpu v (topup vm (reads l cpu (Some v) x)).changes hand.first.0 hand.count
      (always (hyps (VmPool v)))
  unfolding used_of guest_after edited freed needs returned
  topup-move vm p =
      let some : is_some (s.cpu cpu).hand ≡ true =
      and-left (is_some (s.cpu cpu).hand)
      (nat_le (guest_table_count l (s.guest v).tree + length (s.guest v).free + hand.count) 512) p.allowed in
      let alive = stands-alive vm (s.guest v) p.has_vm in
      record {
        frames = hand-frames some (Gain hand) (hand_becomes None) refl;
        only_new = λ q w. eq-self v;
        only_old = λ q w. ap (only v) (was some q w);
        guest =
            λ q. guest-kept (hyps (VmPool v)) hand.first.0 hand.count legal.condition
            (λ f w. ap is_pageless (was some f w)) v q ((s.guest v).tree.map q) (legal.maps.guest v q);
        guest_has = λ q w state h. legal.maps.guest_has v q w state (has-same some q w state h);
        held = λ q. filled q some;
        coarse = legal.trees.guest v;
        blank = λ k. absurd (alive k);
        rooted = legal.guest_parts.rooted v;
        slots =
            slots-stay legal cpu v (new_guest l s v (topup vm (reads l cpu (Some v) x)).changes)
            (new_cpu s cpu (topup vm (reads l cpu (Some v) x)).changes) refl refl refl refl refl (λ h e. cc);
      }
    where
      filled : (q : ℕ)
          → is_some (s.cpu cpu).hand ≡ true
          → frame_count q (all_given (frames_in hand) (s.guest v).free) + table_uses l.depth (s.guest v).tree q
          ≡ one (in_vm v (after q))
      filled q some =
          let a = all_given-count q (frames_in hand) (s.guest v).free in
          let b = count-frames hand.first.0 hand.count q in
          let c = grown some q in
          omega arith

  pub topup-keeps : (vm : VmId)
      → refusal l.depth (topup vm (reads l cpu (Some v) x)) false x ≡ None
      → StepKept l s legal.condition shared_and_guest (Some v) cpu (Topup vm)
      (topup vm (reads l cpu (Some v) x)).changes
  unfolding used_of
  topup-keeps vm h =
      let p = passed l.depth (topup vm (reads l cpu (Some v) x)) false x h in
      guest-keeps l s legal usable cpu v (Topup vm) refl
      (topup vm (reads l cpu (Some v) x)).changes hand.first.0 hand.count (always (hyps (VmPool v)))
      (topup-move vm p) p.shared_enough

  install-move : (t : Ticket)
      → (s.cpu cpu).ticket ≡ Some t
      → t.vm.slot ≡ v
      → t.stage ≡ booked
      → Passed l.depth (install (reads l cpu (Some v) x)) false x
      → GuestMove l s legal.condition cpu v (install (reads l cpu (Some v) x)).changes hand.first.0 hand.count
      (always (hyps (VmPool v)))
  unfolding used_of guest_after edited freed needs returned
  install-move t has at-slot stage p =
      let some : is_some (s.cpu cpu).hand ≡ true = p.allowed in
      let fits = legal.slots.agree.tickets.ticket cpu t has in
      let here = ticket-fits s legal.slots cpu v booked t has at-slot stage in
      let blank = legal.guest_parts.blank v here.1 in
      let generation : (ticket_vm (s.cpu cpu)).generation ≡ (s.vms.slot v).generation =
      ap (λ (n : VmId). n.generation) (ticket-told (s.cpu cpu) t has).0 ∙ fits.generation
      ∙ ap (λ u. (s.vms.slot u).generation) at-slot in
      let kind : ticket_kind (s.cpu cpu) ≡ (s.vms.slot v).kind =
      (ticket-told (s.cpu cpu) t has).1 ∙ fits.kind ∙ ap (λ u. (s.vms.slot u).kind) at-slot in
      record {
        frames =
            hand-frames some (Begin (ticket_kind (s.cpu cpu)) (ticket_vm (s.cpu cpu)).generation hand)
            (record (moved_on installed (s.cpu cpu)) { hand = Becomes None }) refl;
        only_new = λ q w. eq-self v;
        only_old = λ q w. ap (only v) (was some q w);
        guest = λ q. inl refl;
        guest_has = λ q w state h. absurd (unnamed q w state blank (has-same some q w state h));
        held = λ q. rooted q some blank;
        coarse = root_is_coarsest l.depth hand.first.0;
        blank = λ k. cc;
        rooted = λ k. (hand.first.0, root-here l.depth hand.first.0);
        slots =
            slots-turn s legal.slots cpu v t (new_guest l s v (install (reads l cpu (Some v) x)).changes)
            (new_cpu s cpu (install (reads l cpu (Some v) x)).changes) installed has at-slot (here.0, refl)
            (λ k. (generation, kind)) refl (turned (s.cpu cpu).ticket t installed has) (λ h e. cc);
      }
    where
      unnamed : (q w : ℕ) (state : State) → s.guest v ≡ no_guest → legal.condition w ≡ guest_condition state v q → ⊥
      unnamed q w state blank h =
          let k = legal.maps.guest_has v q w state h in
          let z : Unmapped ≡ leaf k.0 w state = sym (ap (λ (g : Guest). g.tree.map q) blank) ∙ k.1 in
          cc

      rooted : (q : ℕ)
          → is_some (s.cpu cpu).hand ≡ true
          → s.guest v ≡ no_guest
          → frame_count q (rest (frames_in hand)) + table_uses l.depth (root_tree l.depth hand.first.0) q
          ≡ one (in_vm v (after q))
      rooted q some blank =
          let a = root-table-uses l.depth hand.first.0 q in
          let b = rest-count hand.first.0 hand.count q (hand-some (s.cpu cpu).hand some (legal.slots.some_hand cpu)) in
          let c = grown some q in
          let d : guest_uses l.depth (s.guest v) q ≡ guest_uses l.depth (no_guest) q =
          ap (λ g. guest_uses l.depth g q) blank in
          let e = no-uses l.depth q in
          omega arith

  pub install-keeps : (t : Ticket)
      → (s.cpu cpu).ticket ≡ Some t
      → t.vm.slot ≡ v
      → t.stage ≡ booked
      → refusal l.depth (install (reads l cpu (Some v) x)) false x ≡ None
      → StepKept l s legal.condition shared_and_guest (Some v) cpu Install (install (reads l cpu (Some v) x)).changes
  unfolding used_of
  install-keeps t has at stage h =
      let p = passed l.depth (install (reads l cpu (Some v) x)) false x h in
      guest-keeps l s legal usable cpu v Install refl
      (install (reads l cpu (Some v) x)).changes hand.first.0 hand.count (always (hyps (VmPool v)))
      (install-move t has at stage p) p.shared_enough
