-- A made step on the Shared part and a guest that moves a range of frames to conditions that name no other guest.
use Rattle.std.proofs.Common.{◌≡◌, ◌≢◌, ℕ, ◌+◌, ◌≤◌, refl, ap, sym, ◌∙◌, subst, arith, inl, inr, length}
use Rattle.std.specs.Prelude.{Bool, true, false, ◌==◌, Some}
use Rattle.descriptor.specs.declared.State.{State}
use Rattle.descriptor.specs.declared.State.TheVariants.{Owned, SharedOwned, SharedBorrowed}
use Rattle.page_state.specs.declared.entry.Entry.{Entry}
use Rattle.page_state.specs.declared.entry.PageRange.{PageRange}
use Rattle.page_state.specs.declared.row.Usage.TheVariants.{Plain, SharedPool, VmPool, InHand}
use Rattle.call_table.specs.declared.step.Step.{Step}
use Rattle.page_state.specs.EntryTests.{maps_frame}
use Rattle.page_state.specs.Map.{is_within}
use Rattle.reference_model.specs.model.State.{Guest, Cpu, Contents, empty, put_at, no_guest, blank}
use Rattle.page_state.specs.Layouts.{Layout, is_memory}
use Rattle.reference_model.specs.model.Owner.{row_of}
use Rattle.reference_model.specs.model.Parts.{shared_and_guest}
use Rattle.reference_model.specs.model.Rules.{names}
use Rattle.reference_model.specs.model.Used.{Used, used_of, put_back}
use Rattle.reference_model.specs.declared.changes.Changes.{Changes}
use Rattle.reference_model.specs.model.Changes.{cpu_by}
use Rattle.reference_model.specs.model.Step.{changed, with_rows, own_row, shared_after, shared_need, guest_after}
use Rattle.page_state.specs.Tables.{edited}
use Rattle.reference_model.specs.help.Conditions.{Condition, outside, hosts, with_hyp, hyps, with_guest, guests, lent_back, guest_condition, GuestFits, IsMemoryLeaf, MapsFit, HeldFit, Legal, IsUsable, row_in, in_vm, one, guest_uses, AreCoarsest, GuestsFit, SlotsFit, RowsFit}
use Rattle.page_state.proofs.Common.{both, eq-same, eq-self, if-true, if-false}
use Rattle.coarse_trees.specs.Coarsest.{IsCoarsest}
use Rattle.reference_model.proofs.Steps.{state_of}
use Rattle.reference_model.proofs.conditions.Slots.{put-fact}
use Rattle.reference_model.proofs.conditions.Stands.{GuestsStand, row-stands}
use Rattle.reference_model.proofs.conditions.OfLegal.{guests-of}
use Rattle.reference_model.proofs.conditions.Moves.{moved_to, moved-in, moved-out, moved-fact, SameSlots, same-agree, cpu-fact}
use Rattle.reference_model.proofs.conditions.FrameMoves.{StepKept, FramesMove, no-uses, layout-after, held-after, host-coarsest, hyp-coarsest, rows-after, shared-stands, hand-stands, kept-after}

-- a condition that names no guest but this one
abbrev pub only : ℕ → Condition → Bool
only v (hyps (VmPool u)) = u == v
only v (with_guest u g) = u == v
only v (guests u g) = u == v
only v (lent_back u g) = u == v
only v other = true

pub only-named : (v : ℕ) (c : Condition) (state : State) (u p : ℕ)
    → only v c ≡ true
    → c ≡ guest_condition state u p
    → u ≡ v
only-named v c Owned u p h e = eq-same u v (sym (ap (only v) e) ∙ h)
only-named v c SharedOwned u p h e = eq-same u v (sym (ap (only v) e) ∙ h)
only-named v c SharedBorrowed u p h e = eq-same u v (sym (ap (only v) e) ∙ h)

-- it counts for no other guest
pub only-vm : (v u : ℕ) (c : Condition) → only v c ≡ true → (u == v) ≡ false → in_vm u c ≡ false
only-vm v u (hyps (VmPool w)) h n = let e : w ≡ v = eq-same w v h in
    elim (both (w == u)) [
      | inl k ↦
          (let bad : u ≡ v = sym (eq-same w u k) ∙ e in
          let t : true ≡ false = sym (ap (λ z. z == v) bad ∙ eq-self v) ∙ n in
          cc)
      | inr k ↦ k
    ]
only-vm v u (hyps Plain) h n = refl
only-vm v u (hyps SharedPool) h n = refl
only-vm v u (hyps (InHand d)) h n = refl
only-vm v u outside h n = refl
only-vm v u hosts h n = refl
only-vm v u with_hyp h n = refl
only-vm v u (with_guest w g) h n = refl
only-vm v u (guests w g) h n = refl
only-vm v u (lent_back w g) h n = refl

-- the part of a state that a call on the Shared part and a guest uses
abbrev pub g_of : ℕ → ℕ → Contents → Used
g_of v cpu s = used_of shared_and_guest (Some v) cpu s

-- the guest, and the CPU, after the rule
abbrev pub new_guest : Layout → Contents → ℕ → Changes → Guest
new_guest l s v r = guest_after l.depth r (s.guest v)

abbrev pub new_cpu : Contents → ℕ → Changes → Cpu
new_cpu s cpu r = cpu_by r.cpu (s.cpu cpu)

-- what a rule on the Shared part and a guest does to the conditions: a range of frames goes from conditions that name
-- no other guest to such conditions
pub record GuestMove (l : Layout) (s : Contents) (condition : ℕ → Condition) (cpu v : ℕ) (r : Changes) (first n : ℕ)
    (c : ℕ → Condition) : Type 0 where
  pub frames : FramesMove l s condition cpu (Some v) r first n c
  pub only_new : (f : ℕ) → is_within first n f ≡ true → only v (c f) ≡ true
  pub only_old : (f : ℕ) → is_within first n f ≡ true → only v (condition f) ≡ true
  pub guest : (p : ℕ) → GuestFits (moved_to c first n condition) v p ((new_guest l s v r).tree.map p)
  pub guest_has : (p f : ℕ) (state : State)
      → moved_to c first n condition f ≡ guest_condition state v p
      → IsMemoryLeaf f state ((new_guest l s v r).tree.map p)
  pub held : (f : ℕ) → guest_uses l.depth (new_guest l s v r) f ≡ one (in_vm v (moved_to c first n condition f))
  pub coarse : IsCoarsest l.depth (new_guest l s v r).tree
  pub blank : (new_guest l s v r).phase ≡ empty → new_guest l s v r ≡ no_guest
  pub rooted : (new_guest l s v r).phase ≢ empty
      → (root : ℕ) × ((new_guest l s v r).tree.table (l.depth + 1, 0) ≡ Some root)
  pub slots : SlotsFit
      (state_of s.vms s.shared (put_at s.guest v (new_guest l s v r)) (put_at s.cpu cpu (new_cpu s cpu r)))

-- what each guest is after one changed
pub guest-fact : (P : ℕ → Guest → Type 0) (g : ℕ → Guest) (v : ℕ) (new : Guest)
    → P v new
    → ((u : ℕ) → (u == v) ≡ false → P u (g u))
    → (u : ℕ)
    → P u (put_at g v new u)
guest-fact P g v new here there u = elim (both (u == v)) [
  | inl e ↦ subst (P u) (sym (if-true (u == v) new (g u) e)) (subst (λ w. P w new) (sym (eq-same u v e)) here)
  | inr e ↦ subst (P u) (sym (if-false (u == v) new (g u) e)) (there u e)
]

-- the guest's slot, where its phase stays and the CPU keeps what it has loaded and its ticket
pub slots-stay : {l : Layout} {s : Contents} (legal : Legal l s) (cpu v : ℕ) (g' : Guest) (k' : Cpu)
    → g'.phase ≡ (s.guest v).phase
    → g'.generation ≡ (s.guest v).generation
    → g'.kind ≡ (s.guest v).kind
    → k'.loaded ≡ (s.cpu cpu).loaded
    → k'.ticket ≡ (s.cpu cpu).ticket
    → ((h : PageRange) → k'.hand ≡ Some h → 1 ≤ h.count)
    → SlotsFit (state_of s.vms s.shared (put_at s.guest v g') (put_at s.cpu cpu k'))
unfolding state_of
slots-stay {l} {s} legal cpu v g' k' phase generation kind loaded ticket hand =
    let same : SameSlots s (state_of s.vms s.shared (put_at s.guest v g') (put_at s.cpu cpu k')) = record {
      slot = λ u. refl;
      phase = guest-fact (λ u d. d.phase ≡ (s.guest u).phase) s.guest v g' phase (λ u d. refl);
      generation = guest-fact (λ u d. d.generation ≡ (s.guest u).generation) s.guest v g' generation (λ u d. refl);
      kind = guest-fact (λ u d. d.kind ≡ (s.guest u).kind) s.guest v g' kind (λ u d. refl);
      loaded = λ d. cpu-fact (λ (j : Cpu). j.loaded) s.cpu cpu k' d loaded;
      ticket = λ d. cpu-fact (λ (j : Cpu). j.ticket) s.cpu cpu k' d ticket;
    } in
    record {
      agree = same-agree s _ same legal.slots.agree;
      few_slots = legal.slots.few_slots;
      few_vcpus =
          legal.slots.few_vcpus;
      some_hand =
          put-fact (λ c (d : Cpu). (h : PageRange) → d.hand ≡ Some h → 1 ≤ h.count) s.cpu cpu k' hand
          (λ c e. legal.slots.some_hand c);
    }

-- the blank guests but one say of the frame what its condition says, where that names no other
only-guests : (l : Layout) (f v : ℕ) (c : Condition) (g : Guest) → only v c ≡ true
    → ((p : ℕ) (state : State) → c ≡ guest_condition state v p → maps_frame f state (g.tree.map p) ≡ true)
    → ((p : ℕ) (state : State) → maps_frame f state (g.tree.map p) ≡ true → c ≡ guest_condition state v p)
    → guest_uses l.depth g f ≡ one (in_vm v c)
    → GuestsStand l (put_at (λ u. no_guest) v g) f c
only-guests l f v c g o has alone held =
    record { has = λ u p state. has-at u p state; alone = λ u p state. alone-at u p state; held = held-at }
  where
    has-at : (u p : ℕ) (state : State)
        → c ≡ guest_condition state u p
        → maps_frame f state ((put_at (λ w. no_guest) v g u).tree.map p) ≡ true
    has-at u p state e =
        let same = only-named v c state u p o e in
        let is : put_at (λ w. no_guest) v g u ≡ g = if-true (u == v) g no_guest (ap (λ w. w == v) same ∙ eq-self v) in
        ap (λ (x : Guest). maps_frame f state (x.tree.map p)) is
        ∙ has p state (e ∙ ap (λ w. guest_condition state w p) same)

    alone-at : (u p : ℕ) (state : State)
        → maps_frame f state ((put_at (λ w. no_guest) v g u).tree.map p) ≡ true
        → c ≡ guest_condition state u p
    alone-at u p state m = elim (both (u == v)) [
      | inl e ↦ alone p state
          (sym (ap (λ (x : Guest). maps_frame f state (x.tree.map p)) (if-true (u == v) g no_guest e)) ∙ m)
          ∙ ap (λ w. guest_condition state w p) (sym (eq-same u v e))
      | inr e ↦ let bad : false ≡ true =
          sym (ap (λ (x : Guest). maps_frame f state (x.tree.map p)) (if-false (u == v) g no_guest e)) ∙ m in
          cc
    ]

    none : guest_uses l.depth no_guest f ≡ 0
    none = let e = no-uses l.depth f in omega arith

    held-at : (u : ℕ) → guest_uses l.depth (put_at (λ w. no_guest) v g u) f ≡ one (in_vm u c)
    held-at u = elim (both (u == v)) [
      | inl e ↦ ap (λ (x : Guest). guest_uses l.depth x f) (if-true (u == v) g no_guest e) ∙ held
          ∙ ap (λ w. one (in_vm w c)) (sym (eq-same u v e))
      | inr e ↦ ap (λ (x : Guest). guest_uses l.depth x f) (if-false (u == v) g no_guest e) ∙ none
          ∙ ap one (sym (only-vm v u c o e))
    ]

module _ (l : Layout) (s : Contents) (legal : Legal l s) (usable : IsUsable l) (cpu v : ℕ) (step : Step)
    (named : names step ≡ shared_and_guest) (r : Changes) (first n : ℕ) (c : ℕ → Condition)
    (m : GuestMove l s legal.condition cpu v r first n c)
    (enough : shared_need l.depth r s.shared ≤ length s.shared.free) where
  abbrev after : ℕ → Condition
  after = moved_to c first n legal.condition

  y : Used
  y = changed l.depth r (g_of v cpu s)

  t : Contents
  t = put_back shared_and_guest (Some v) cpu s (with_rows l cpu (Some v) step r y)

  -- another guest's entries
  other-fits : (u p : ℕ) (e : Entry) → (u == v) ≡ false → GuestFits legal.condition u p e → GuestFits after u p e
  other-fits u p e d (inl h) = inl h
  other-fits u p e d (inr h) = inr (record {
    frame = h.frame;
    prot = h.prot;
    state = h.state;
    leaf_is = h.leaf_is;
    named = elim (both (is_within first n h.frame)) [
      | inl w ↦ absurd
          (let same = only-named v (legal.condition h.frame) h.state u p (m.only_old h.frame w) h.named in
          let bad : true ≡ false = sym (ap (λ z. z == v) same ∙ eq-self v) ∙ d in
          cc)
      | inr w ↦ moved-out c first n legal.condition h.frame w ∙ h.named
    ];
  })

  other-has : (u p f : ℕ) (state : State)
      → (u == v) ≡ false
      → after f ≡ guest_condition state u p
      → legal.condition f ≡ guest_condition state u p
  other-has u p f state d h = elim (both (is_within first n f)) [
    | inl w ↦ absurd
        (let same = only-named v (c f) state u p (m.only_new f w) (sym (moved-in c first n legal.condition f w) ∙ h) in
        let bad : true ≡ false = sym (ap (λ z. z == v) same ∙ eq-self v) ∙ d in
        cc)
    | inr w ↦ sym (moved-out c first n legal.condition f w) ∙ h
  ]

  maps : MapsFit t after
  unfolding t y put_back with_rows changed used_of shared_after edited other-fits other-has
  maps = record {
    host = m.frames.host;
    hyp = m.frames.hyp;
    hyp_below = m.frames.hyp_below;
    guest =
        guest-fact (λ u g. (p : ℕ) → GuestFits after u p (g.tree.map p)) s.guest v (new_guest l s v r) m.guest
        (λ u d p. other-fits u p ((s.guest u).tree.map p) d (legal.maps.guest u p));
    guest_has =
        guest-fact
        (λ u g. (p f : ℕ) (state : State)
        → after f ≡ guest_condition state u p
        → IsMemoryLeaf f state (g.tree.map p)) s.guest v
        (new_guest l s v r) m.guest_has (λ u d p f state h. legal.maps.guest_has u p f state
        (other-has u p f state d h));
  }

  held : HeldFit l t after
  unfolding t y put_back with_rows changed used_of shared_after
  held = record {
    shared = held-after legal m.frames enough;
    vm =
        guest-fact (λ u g. (f : ℕ) → guest_uses l.depth g f ≡ one (in_vm u (after f))) s.guest v
        (new_guest l s v r) m.held
        (λ u d f. legal.held.vm u f
        ∙ ap one
        (moved-fact (in_vm u) c first n legal.condition f
        (λ w. only-vm v u (legal.condition f) (m.only_old f w) d
        ∙ sym (only-vm v u (c f) (m.only_new f w) d))));
    hand = m.frames.hand;
  }

  guest-same : put_at s.guest v (new_guest l s v r) v ≡ new_guest l s v r
  guest-same = if-true (v == v) (new_guest l s v r) (s.guest v) (eq-self v)

  guest-stands : (f : ℕ) → is_within first n f ≡ true → GuestsStand l (put_at (λ u. no_guest) v y.guest) f (c f)
  unfolding t y put_back with_rows changed used_of shared_after
  guest-stands f w =
      let st = guests-of t after maps f l held in
      let at = moved-in c first n legal.condition f w in
      only-guests l f v (c f) (new_guest l s v r) (m.only_new f w)
      (λ p state e. sym (ap (λ (x : Guest). maps_frame f state (x.tree.map p)) guest-same) ∙ st.has v p state (at ∙ e))
      (λ p state e. sym at ∙ st.alone v p state (ap (λ (x : Guest). maps_frame f state (x.tree.map p)) guest-same ∙ e))
      (m.held f ∙ ap (λ d. one (in_vm v d)) at)

  own : (f : ℕ) → is_memory l f ≡ true → is_within first n f ≡ true → own_row l cpu (Some v) step y f ≡ row_in f (c f)
  unfolding own_row t y put_back with_rows changed used_of shared_after
  own f mem w =
      let st = shared-stands legal m.frames t maps held f w in
      ap (λ k. row_of l (put_back k (Some v) cpu blank y) f) named
      ∙ row-stands l (put_back shared_and_guest (Some v) cpu blank y) f (c f)
      (record {
        host = st.host;
        host_alone = st.host_alone;
        hyp = st.hyp;
        hyp_alone = st.hyp_alone;
        held = st.held;
      })
      (guest-stands f w) (hand-stands legal m.frames f w) (m.frames.good f w) (λ i. usable.pages f mem)

  rows : RowsFit l t after
  unfolding t y put_back with_rows changed used_of shared_after
  rows = rows-after legal m.frames (own_row l cpu (Some v) step y) own

  slots : SlotsFit t
  unfolding t y put_back with_rows changed used_of state_of
  slots =
      let same : SameSlots (state_of s.vms s.shared (put_at s.guest v (new_guest l s v r)) (put_at s.cpu cpu (new_cpu s cpu r))) t =
      record {
        slot = λ u. refl;
        phase = λ u. refl;
        generation = λ u. refl;
        kind = λ u. refl;
        loaded = λ d. refl;
        ticket = λ d. refl;
      } in
      record {
        agree = same-agree _ t same m.slots.agree;
        few_slots = m.slots.few_slots;
        few_vcpus = m.slots.few_vcpus;
        some_hand = m.slots.some_hand;
      }

  trees : AreCoarsest l t
  unfolding t y put_back with_rows changed used_of
  trees =
      record {
        host = host-coarsest legal m.frames enough;
        hyp = hyp-coarsest legal m.frames enough;
        guest =
            guest-fact (λ u g. IsCoarsest l.depth g.tree) s.guest v (new_guest l s v r) m.coarse
            (λ u d. legal.trees.guest u);
      }

  parts : GuestsFit l t
  unfolding t y put_back with_rows changed used_of
  parts = record {
    blank =
        guest-fact (λ u g. g.phase ≡ empty → g ≡ no_guest) s.guest v (new_guest l s v r) m.blank
        (λ u d. legal.guest_parts.blank u);
    rooted =
        guest-fact (λ u g. g.phase ≢ empty → (root : ℕ) × (g.tree.table (l.depth + 1, 0) ≡ Some root)) s.guest v
        (new_guest l s v r) m.rooted (λ u d. legal.guest_parts.rooted u);
  }

  -- the step keeps the invariant
  pub guest-keeps : StepKept l s legal.condition shared_and_guest (Some v) cpu step r
  unfolding t y
  guest-keeps =
      kept-after legal m.frames shared_and_guest step
      (record {
        condition = after;
        of_layout = layout-after legal m.frames;
        maps = maps;
        held = held;
        rows = rows;
        trees = trees;
        guest_parts = parts;
        slots = slots;
      })
      (λ f. refl) own
