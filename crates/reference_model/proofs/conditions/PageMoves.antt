-- A made step that changes a range of the host's pages and as many pages of a guest.
use Rattle.std.proofs.Common.{length, ◌≡◌, ◌≢◌, ℕ, ◌+◌, ◌-◌, ◌≤◌, ◌<◌, refl, ap, sym, ◌∙◌, subst, arith, inl, inr}
use Rattle.std.specs.Prelude.{Some, true, false, ◌⊎◌}
use Rattle.descriptor.specs.declared.Prot.{Prot}
use Rattle.descriptor.specs.declared.State.{State}
use Rattle.page_state.specs.declared.entry.Entry.{Entry}
use Rattle.page_state.specs.declared.entry.Entry.TheVariants.{Unmapped, Malformed, Annotated, Leaf}
use Rattle.page_state.specs.Entries.{advance}
use Rattle.page_state.specs.EntryTests.{leaf}
use Rattle.page_state.specs.Geometries.{pages_below}
use Rattle.page_state.specs.Map.{update, is_within}
use Rattle.reference_model.specs.model.State.{Contents, empty}
use Rattle.page_state.specs.Layouts.{Layout, is_memory}
use Rattle.reference_model.specs.model.GuestRules.{two_ranges}
use Rattle.reference_model.specs.declared.changes.Changes.{Changes}
use Rattle.reference_model.specs.model.Changes.{same_cpu}
use Rattle.reference_model.specs.model.Step.{guest_after, guest_need}
use Rattle.page_state.specs.Tables.{put, edited}
use Rattle.reference_model.specs.help.ConditionChanges.{touched_condition}
use Rattle.reference_model.specs.help.RowChanges.{touched_row}
use Rattle.reference_model.specs.help.Conditions.{row_in, Condition, HostFits, hyp_entry_by, guest_condition, GuestFits, IsMemoryLeaf, Legal, IsUsable, in_shared, in_vm, in_hand, one, is_inside, IsGood}
use Rattle.page_state.proofs.Common.{both, if-true, if-false}
use Rattle.coarse_trees.proofs.Stays.{edit_keeps_coarsest}
use Rattle.reference_model.proofs.conditions.Moves.{moved_to, host-moved, moved-in, moved-out, moved-fact}
use Rattle.reference_model.proofs.conditions.GuestMoves.{only, new_guest, new_cpu, GuestMove, slots-stay}
use Rattle.reference_model.proofs.conditions.Conserved.{tree-conserved, edited-root}
use Rattle.reference_model.proofs.conditions.RangeMoves.{within-is, within-made, range-in, hands-stay}

-- the frames and the pages before and after: frame i of the range belongs to page i
pub record PagesMove (l : Layout) (s : Contents) (condition : ℕ → Condition) (v f : ℕ) (e : Entry) (g : ℕ) (e' : Entry)
    (n : ℕ) (c : ℕ → Condition) : Type 0 where
  pub some_pages : 1 ≤ n
  pub memory : (q : ℕ) → is_within f n q ≡ true → is_memory l q ≡ true
  pub pages : g + n ≤ pages_below l.depth
  pub alive : (s.guest v).phase ≢ empty
  pub good : (q : ℕ) → is_within f n q ≡ true → IsGood l (c q)
  pub some : (q : ℕ) → is_within f n q ≡ true → is_inside (c q) ≡ true
  pub only_new : (q : ℕ) → is_within f n q ≡ true → only v (c q) ≡ true
  pub only_old : (q : ℕ) → is_within f n q ≡ true → only v (condition q) ≡ true
  pub same_shared : (q : ℕ) → is_within f n q ≡ true → in_shared (condition q) ≡ in_shared (c q)
  pub same_vm : (q : ℕ) → is_within f n q ≡ true → in_vm v (condition q) ≡ in_vm v (c q)
  pub same_hand : (d q : ℕ) → is_within f n q ≡ true → in_hand d (condition q) ≡ in_hand d (c q)
  pub no_hand : (d q : ℕ) → is_within f n q ≡ true → in_hand d (c q) ≡ false
  pub same_hyp : (q : ℕ) → is_within f n q ≡ true → hyp_entry_by q (condition q) ≡ hyp_entry_by q (c q)
  pub host : (q : ℕ) → is_within f n q ≡ true → HostFits q (c q) (advance e (q - f))
  pub told : (cpu q : ℕ) → is_within f n q ≡ true → row_in q (c q) ≡ touched_row cpu (Some v) (two_ranges f e g e' n) q
  pub goes : (cpu q : ℕ) → is_within f n q ≡ true → c q ≡ touched_condition cpu (Some v) (two_ranges f e g e' n) q
  -- no other page of the guest has the frame, nor its page another frame
  pub old_page : (q p : ℕ) (state : State)
      → is_within f n q ≡ true
      → condition q ≡ guest_condition state v p
      → p ≡ g + (q - f)
  pub old_frame : (q p : ℕ) (state : State)
      → is_within g n p ≡ true
      → condition q ≡ guest_condition state v p
      → q ≡ f + (p - g)
  pub new_page : (p : ℕ)
      → is_within g n p ≡ true
      → (advance e' (p - g) ≡ Unmapped)
      ⊎ ((prot : Prot)
      × (state : State)
      × (advance e' (p - g) ≡ leaf prot (f + (p - g)) state)
      × (c (f + (p - g)) ≡ guest_condition state v p))
  pub new_has : (q p : ℕ) (state : State)
      → is_within f n q ≡ true
      → c q ≡ guest_condition state v p
      → (p ≡ g + (q - f)) × IsMemoryLeaf q state (advance e' (q - f))

pub advance-none : (e : Entry) (g : ℕ) → advance e (g - g) ≡ e
advance-none Unmapped g = refl
advance-none Malformed g = refl
advance-none (Annotated o) g = refl
advance-none (Leaf frame prot kind state) g = let z : frame.0 + (g - g) ≡ frame.0 = omega arith in
    ap (λ n. Leaf (record { 0 = n }) prot kind state) z

-- a number of one range, counted from its first, is in the other
pub within-turned : (f g n q : ℕ) → is_within f n q ≡ true → is_within g n (g + (q - f)) ≡ true
within-turned f g n q w =
    let at = within-is f n q w in
    let low : f ≤ q = at.0 in
    let high : q < f + n = at.1 in
    within-made g n (g + (q - f)) (omega arith) (omega arith)

pub turned-back : (f g n q : ℕ) → is_within f n q ≡ true → f + (g + (q - f) - g) ≡ q
turned-back f g n q w = let at = within-is f n q w in let low : f ≤ q = at.0 in omega arith

module _ (l : Layout) (s : Contents) (legal : Legal l s) (usable : IsUsable l) (cpu v : ℕ) (f : ℕ) (e : Entry) (g : ℕ)
    (e' : Entry) (n : ℕ) (c : ℕ → Condition) (m : PagesMove l s legal.condition v f e g e' n c) where
  abbrev r : Changes
  r = two_ranges f e g e' n

  after : ℕ → Condition
  after = moved_to c f n legal.condition

  off : (first p : ℕ) → is_within first n p ≡ false → is_within first n p ≡ true → ⊥
  off first p w k = let z : true ≡ false = sym k ∙ w in cc

  see : {X : Type 0} (look : Condition → X) (q : ℕ)
      → (is_within f n q ≡ true → look (legal.condition q) ≡ look (c q))
      → look (legal.condition q) ≡ look (after q)
  unfolding after
  see look q h = moved-fact look c f n legal.condition q h

  -- the guest's page after the change
  in-range : (p : ℕ) → is_within g n p ≡ true → update (s.guest v).tree.map g n e' p ≡ advance e' (p - g)
  in-range p w = if-true (is_within g n p) (advance e' (p - g)) ((s.guest v).tree.map p) w

  out-range : (p : ℕ) → is_within g n p ≡ false → update (s.guest v).tree.map g n e' p ≡ (s.guest v).tree.map p
  out-range p w = if-false (is_within g n p) (advance e' (p - g)) ((s.guest v).tree.map p) w

  guest : (p : ℕ) → GuestFits after v p (update (s.guest v).tree.map g n e' p)
  unfolding after
  guest p = elim (both (is_within g n p)) [
    | inl w ↦ elim (m.new_page p w) [
      | inl h ↦ inl (in-range p w ∙ h)
      | inr h ↦ inr
          (record {
            frame = f + (p - g);
            prot = h.0;
            state = h.1;
            leaf_is = in-range p w
                ∙ h.2;
            named = moved-in c f n legal.condition (f + (p - g)) (within-turned g f n p w) ∙ h.3;
          })
    ]
    | inr w ↦ elim (legal.maps.guest v p) [
      | inl h ↦ inl (out-range p w ∙ h)
      | inr h ↦ inr (record {
        frame = h.frame;
        prot = h.prot;
        state = h.state;
        leaf_is = out-range p w ∙ h.leaf_is;
        named = elim (both (is_within f n h.frame)) [
          | inl k ↦ absurd
              (off g p w
              (subst (λ x. is_within g n x ≡ true) (sym (m.old_page h.frame p h.state k h.named))
              (within-turned f g n h.frame k)))
          | inr k ↦ moved-out c f n legal.condition h.frame k ∙ h.named
        ];
      })
    ]
  ]

  guest_has : (p q : ℕ) (state : State)
      → after q ≡ guest_condition state v p
      → IsMemoryLeaf q state (update (s.guest v).tree.map g n e' p)
  unfolding after
  guest_has p q state h = elim (both (is_within f n q)) [
    | inl k ↦
        let new = m.new_has q p state k (sym (moved-in c f n legal.condition q k) ∙ h) in
        let at : p ≡ g + (q - f) = new.0 in
        let w : is_within g n p ≡ true = subst (λ x. is_within g n x ≡ true) (sym at) (within-turned f g n q k) in
        let same : p - g ≡ q - f = omega arith in
        (new.1.0, in-range p w ∙ ap (advance e') same ∙ new.1.1)
    | inr k ↦
        let was : legal.condition q ≡ guest_condition state v p = sym (moved-out c f n legal.condition q k) ∙ h in
        let old = legal.maps.guest_has v p q state was in
        elim (both (is_within g n p)) [
          | inl w ↦ absurd
              (off f q k
              (subst (λ x. is_within f n x ≡ true) (sym (m.old_frame q p state w was)) (within-turned g f n p w)))
          | inr w ↦ (old.0, out-range p w ∙ old.1)
        ]
  ]

  pub pages-move : guest_need l.depth r (s.guest v) ≤ length (s.guest v).free
      → GuestMove l s legal.condition cpu v r f n c
  unfolding guest_after edited after
  pages-move enough =
      let low = range-in l usable f n m.some_pages m.memory in
      let range : g + n ≤ pages_below l.depth = m.pages in
      record {
        frames = record {
          inside = λ q w. m.memory q w ∙ sym (m.some q w);
          alike = λ q k w z. m.some q w ∙ sym (m.some k z);
          good = m.good;
          same_use = m.same_shared;
          host = host-moved s.shared.host.map f n e c legal.condition m.host legal.maps.host;
          hyp = λ q. legal.maps.hyp q ∙ moved-fact (hyp_entry_by q) c f n legal.condition q (m.same_hyp q);
          hyp_below = legal.maps.hyp_below;
          touched = λ q. refl;
          told = m.told cpu;
          goes = λ q w k. m.goes cpu q w;
          host_range = let e : f + n ≤ pages_below l.depth = omega arith in e;
          hyp_range = tt;
          hand = hands-stay legal cpu same_cpu c f n refl m.same_hand;
          own_hand = λ d q w h. let z : true ≡ false = sym h ∙ m.no_hand d q w in cc;
        };
        only_new = m.only_new;
        only_old = m.only_old;
        guest = guest;
        guest_has = guest_has;
        held =
            λ q. tree-conserved l.depth (put g n e') (s.guest v).tree (s.guest v).free q range enough
            ∙ legal.held.vm v q ∙ ap one (see (in_vm v) q (m.same_vm q));
        coarse =
            edit_keeps_coarsest l.depth (s.guest v).tree (put g n e') (s.guest v).free range
            (legal.trees.guest v) enough;
        blank = λ k. absurd (m.alive k);
        rooted = λ k. let old = legal.guest_parts.rooted v k in
            (old.0, edited-root l.depth (put g n e') (s.guest v).tree (s.guest v).free range ∙ old.1);
        slots =
            slots-stay legal cpu v (new_guest l s v r) (new_cpu s cpu r) refl refl refl refl refl
            (legal.slots.some_hand cpu);
      }
