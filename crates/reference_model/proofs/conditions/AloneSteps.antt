-- The made steps on a Guest part alone keep the invariant.
use Rattle.std.proofs.Common.{◌≡◌, ◌≢◌, ℕ, ◌+◌, ◌-◌, ◌≤◌, ◌<◌, refl, ap, sym, ◌∙◌, subst, arith, inl, inr}
use Rattle.std.specs.Prelude.{false, Some, None}
use Rattle.descriptor.specs.declared.Prot.{Prot}
use Rattle.descriptor.specs.declared.State.{State}
use Rattle.reference_model.specs.model.Rule.{reads}
use Rattle.reference_model.specs.declared.changes.Ticket.{Ticket}
use Rattle.reference_model.specs.declared.changes.Stage.TheVariants.{Closing as closing_vm, Dying as dying_vm}
use Rattle.call_table.specs.declared.step.Step.TheVariants.{GuestRelax, GuestTranslate, MarkDying}
use Rattle.call_table.specs.declared.step.VmId.{VmId}
use Rattle.page_state.specs.Entries.{advance}
use Rattle.page_state.specs.EntryTests.{with_rights, join}
use Rattle.page_state.specs.Geometries.{pages_below}
use Rattle.reference_model.specs.model.GuestRules.{guest_relax, guest_translate, mark_dying}
use Rattle.page_state.specs.Map.{Map, update, is_within}
use Rattle.reference_model.specs.model.State.{Guest, Cpu, Contents, empty, live, put_at, no_guest}
use Rattle.page_state.specs.Layouts.{Layout}
use Rattle.reference_model.specs.model.Owner.{is_in_hand}
use Rattle.reference_model.specs.model.Parts.{guest}
use Rattle.reference_model.specs.model.Used.{Used, used_of, put_back}
use Rattle.reference_model.specs.model.Step.{refusal, changed, with_rows, guest_after}
use Rattle.page_state.specs.Tables.{put, needs, freed, returned, edited}
use Rattle.reference_model.specs.help.Conditions.{guest_condition, GuestFits, IsMemoryLeaf, Legal, IsUsable, in_vm, one, guest_uses, SlotsFit}
use Rattle.page_state.proofs.Common.{both, if-true, if-false}
use Rattle.coarse_trees.specs.Coarsest.{IsCoarsest}
use Rattle.coarse_trees.proofs.Stays.{edit_keeps_coarsest}
use Rattle.reference_model.proofs.Steps.{state_of}
use Rattle.reference_model.proofs.conditions.Conserved.{tree-conserved, edited-root}
use Rattle.reference_model.proofs.conditions.Moves.{LegalAlone, same-agree, cpu-fact}
use Rattle.reference_model.proofs.conditions.GuestMoves.{new_guest, new_cpu, guest-fact, slots-stay}
use Rattle.reference_model.proofs.conditions.PageMoves.{advance-none}
use Rattle.reference_model.proofs.conditions.PageSteps.{good-page}
use Rattle.reference_model.proofs.conditions.RangeMoves.{one-within}
use Rattle.reference_model.proofs.conditions.Tests.{passed}
use Rattle.reference_model.proofs.conditions.Slots.{ticket-fits, slots-turn}
use Rattle.reference_model.proofs.conditions.PoolSteps.{turned}

-- a state of which one guest and a CPU changed, but no hand and no condition
pub alone-legal : (l : Layout) (s : Contents) (legal : Legal l s) (cpu v : ℕ) (g : Guest) (k : Cpu)
    → ((p : ℕ) → GuestFits legal.condition v p (g.tree.map p))
    → ((p f : ℕ) (state : State) → legal.condition f ≡ guest_condition state v p → IsMemoryLeaf f state (g.tree.map p))
    → ((f : ℕ) → guest_uses l.depth g f ≡ one (in_vm v (legal.condition f)))
    → IsCoarsest l.depth g.tree
    → (g.phase ≡ empty → g ≡ no_guest)
    → (g.phase ≢ empty → (root : ℕ) × (g.tree.table (l.depth + 1, 0) ≡ Some root))
    → k.hand ≡ (s.cpu cpu).hand → SlotsFit (state_of s.vms s.shared (put_at s.guest v g) (put_at s.cpu cpu k))
    → LegalAlone l s legal
    (record { vms = s.vms; shared = s.shared; guest = put_at s.guest v g; cpu = put_at s.cpu cpu k })
unfolding state_of
alone-legal l s legal cpu v g k fits has held coarse blank rooted same slots = (
  record {
    condition = legal.condition;
    of_layout = legal.of_layout;
    maps = record {
      host = legal.maps.host;
      hyp = legal.maps.hyp;
      hyp_below = legal.maps.hyp_below;
      guest =
          guest-fact (λ u x. (p : ℕ) → GuestFits legal.condition u p (x.tree.map p)) s.guest v g fits
          (λ u d. legal.maps.guest u);
      guest_has =
          guest-fact
          (λ u x. (p f : ℕ) (state : State)
          → legal.condition f ≡ guest_condition state u p
          → IsMemoryLeaf f state (x.tree.map p)) s.guest v g has (λ u d. legal.maps.guest_has u);
    };
    held = record {
      shared = legal.held.shared;
      vm =
          guest-fact (λ u x. (f : ℕ) → guest_uses l.depth x f ≡ one (in_vm u (legal.condition f))) s.guest v g held
          (λ u d. legal.held.vm u);
      hand = λ c f. ap (λ h. is_in_hand h f) (cpu-fact (λ (d : Cpu). d.hand) s.cpu cpu k c same) ∙ legal.held.hand c f;
    };
    rows = legal.rows;
    trees =
        record {
          host = legal.trees.host;
          hyp = legal.trees.hyp;
          guest = guest-fact (λ u x. IsCoarsest l.depth x.tree) s.guest v g coarse (λ u d. legal.trees.guest u);
        };
    guest_parts = record {
      blank = guest-fact (λ u x. x.phase ≡ empty → x ≡ no_guest) s.guest v g blank (λ u d. legal.guest_parts.blank u);
      rooted =
          guest-fact
          (λ u x. x.phase ≢ empty → (root : ℕ) × (x.tree.table (l.depth + 1, 0) ≡ Some root)) s.guest v g rooted
          (λ u d. legal.guest_parts.rooted u);
    };
    slots =
        record {
          agree = same-agree _ _
              (record {
                slot = λ u. refl;
                phase = λ u. refl;
                generation = λ u. refl;
                kind = λ u. refl;
                loaded = λ c. refl;
                ticket = λ c. refl;
              }) slots.agree;
          few_slots = slots.few_slots;
          few_vcpus = slots.few_vcpus;
          some_hand = slots.some_hand;
        };
  },
  λ f. refl,
)

module _ (l : Layout) (s : Contents) (legal : Legal l s) (usable : IsUsable l) (cpu v : ℕ) (slot : v < 64) where
  abbrev pub x : Used
  x = used_of guest (Some v) cpu s

  -- entries whose rights grew
  relaxed : (g : ℕ) (rights : Prot) (p : ℕ)
      → GuestFits legal.condition v p (update (s.guest v).tree.map g 1 (with_rights rights ((s.guest v).tree.map g)) p)
  relaxed g rights p =
      let m : Map = (s.guest v).tree.map in
      elim (both (is_within g 1 p)) [
        | inl w ↦
            let same = one-within g p w in
            let is : update m g 1 (with_rights rights (m g)) p ≡ with_rights rights (m p) =
            if-true (is_within g 1 p) (advance (with_rights rights (m g)) (p - g)) (m p) w
            ∙ ap (λ n. advance (with_rights rights (m g)) (n - g)) (sym same)
            ∙ advance-none (with_rights rights (m g)) g ∙ ap (λ n. with_rights rights (m n)) same in
            elim (legal.maps.guest v p) [
              | inl h ↦ inl (is ∙ ap (with_rights rights) h)
              | inr h ↦ inr
                  (record {
                    frame = h.frame;
                    prot = join h.prot rights;
                    state = h.state;
                    leaf_is = is
                        ∙ ap (with_rights rights) h.leaf_is;
                    named = h.named;
                  })
            ]
        | inr w ↦ subst (GuestFits legal.condition v p)
            (sym (if-false (is_within g 1 p) (advance (with_rights rights (m g)) (p - g)) (m p) w))
            (legal.maps.guest v p)
      ]

  relaxed-has : (g : ℕ) (rights : Prot) (p f : ℕ) (state : State)
      → legal.condition f ≡ guest_condition state v p
      → IsMemoryLeaf f state (update (s.guest v).tree.map g 1 (with_rights rights ((s.guest v).tree.map g)) p)
  relaxed-has g rights p f state h =
      let m : Map = (s.guest v).tree.map in
      let old = legal.maps.guest_has v p f state h in
      elim (both (is_within g 1 p)) [
        | inl w ↦
            let same = one-within g p w in
            let is : update m g 1 (with_rights rights (m g)) p ≡ with_rights rights (m p) =
            if-true (is_within g 1 p) (advance (with_rights rights (m g)) (p - g)) (m p) w
            ∙ ap (λ n. advance (with_rights rights (m g)) (n - g)) (sym same)
            ∙ advance-none (with_rights rights (m g)) g ∙ ap (λ n. with_rights rights (m n)) same in
            (join old.0 rights, is ∙ ap (with_rights rights) old.1)
        | inr w ↦ (old.0, if-false (is_within g 1 p) (advance (with_rights rights (m g)) (p - g)) (m p) w ∙ old.1)
      ]

  pub guest_relax-keeps : (g : ℕ) (rights : Prot)
      → (s.guest v).phase ≢ empty
      → refusal l.depth (guest_relax g rights (reads l cpu (Some v) x)) false x ≡ None
      → LegalAlone l s legal
      (put_back guest (Some v) cpu s
      (with_rows l cpu (Some v) (GuestRelax g rights) (guest_relax g rights (reads l cpu (Some v) x)).changes
      (changed l.depth (guest_relax g rights (reads l cpu (Some v) x)).changes x)))
  unfolding used_of put_back with_rows changed guest_after edited
  guest_relax-keeps g rights alive h =
      let p = passed l.depth (guest_relax g rights (reads l cpu (Some v) x)) false x h in
      let less = good-page l g p.valid in
      let range : g + 1 ≤ pages_below l.depth = omega arith in
      let e = with_rights rights ((s.guest v).tree.map g) in
      let r = guest_relax g rights (reads l cpu (Some v) x) in
      alone-legal l s legal cpu v (new_guest l s v r.changes) (new_cpu s cpu r.changes)
      (relaxed g rights) (relaxed-has g rights)
      (λ f. tree-conserved l.depth (put g 1 e) (s.guest v).tree (s.guest v).free f range p.guest_enough
      ∙ legal.held.vm v f)
      (edit_keeps_coarsest l.depth (s.guest v).tree (put g 1 e) (s.guest v).free range
      (legal.trees.guest v) p.guest_enough)
      (λ k. absurd (alive k))
      (λ k. let old = legal.guest_parts.rooted v k in
      (old.0, edited-root l.depth (put g 1 e) (s.guest v).tree (s.guest v).free range ∙ old.1))
      refl
      (slots-stay legal cpu v (new_guest l s v r.changes) (new_cpu s cpu r.changes) refl refl refl refl refl
      (legal.slots.some_hand cpu))

  pub guest_translate-keeps : (vm : VmId) (g : ℕ)
      → refusal l.depth (guest_translate vm g (reads l cpu (Some v) x)) false x ≡ None
      → LegalAlone l s legal
      (put_back guest (Some v) cpu s
      (with_rows l cpu (Some v) (GuestTranslate vm g) (guest_translate vm g (reads l cpu (Some v) x)).changes
      (changed l.depth (guest_translate vm g (reads l cpu (Some v) x)).changes x)))
  unfolding used_of put_back with_rows changed guest_after edited needs freed returned
  guest_translate-keeps vm g h =
      let r = guest_translate vm g (reads l cpu (Some v) x) in
      alone-legal l s legal cpu v (new_guest l s v r.changes) (new_cpu s cpu r.changes) (legal.maps.guest v)
      (legal.maps.guest_has v) (legal.held.vm v) (legal.trees.guest v)
      (legal.guest_parts.blank v) (legal.guest_parts.rooted v) refl
      (slots-stay legal cpu v (new_guest l s v r.changes) (new_cpu s cpu r.changes) refl refl refl refl refl
      (legal.slots.some_hand cpu))

  pub mark_dying-keeps : (t : Ticket)
      → (s.cpu cpu).ticket ≡ Some t
      → t.vm.slot ≡ v
      → t.stage ≡ closing_vm
      → refusal l.depth (mark_dying (reads l cpu (Some v) x)) false x ≡ None
      → LegalAlone l s legal
      (put_back guest (Some v) cpu s
      (with_rows l cpu (Some v) MarkDying (mark_dying (reads l cpu (Some v) x)).changes
      (changed l.depth (mark_dying (reads l cpu (Some v) x)).changes x)))
  unfolding used_of put_back with_rows changed guest_after edited needs freed returned
  mark_dying-keeps t has at-slot stage h =
      let here = ticket-fits s legal.slots cpu v closing_vm t has at-slot stage in
      let alive : (s.guest v).phase ≢ empty = λ e. (let z : live ≡ empty = sym here.1 ∙ e in cc) in
      let of = legal.slots.agree.guests.same_vm v alive in
      alone-legal l s legal cpu v (new_guest l s v (mark_dying (reads l cpu (Some v) x)).changes)
      (new_cpu s cpu (mark_dying (reads l cpu (Some v) x)).changes) (legal.maps.guest v) (legal.maps.guest_has v)
      (legal.held.vm v) (legal.trees.guest v)
      (λ k. cc) (λ k. legal.guest_parts.rooted v alive) refl
      (slots-turn s legal.slots cpu v t (new_guest l s v (mark_dying (reads l cpu (Some v) x)).changes)
      (new_cpu s cpu (mark_dying (reads l cpu (Some v) x)).changes) dying_vm has at-slot (here.0, refl)
      (λ k. (of.generation, of.kind)) refl (turned (s.cpu cpu).ticket t dying_vm has)
      (legal.slots.some_hand cpu))
