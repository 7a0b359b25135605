-- The frames of a state are legal just where each is in its one condition.
use Rattle.std.proofs.Common.{◌≡◌, ℕ, zero, suc, ◌<◌, Bool, true, false, ◌==◌, List, Option, Some, None, refl, sym, ap, subst, ◌∙◌, inl, inr, arith, cond}
use Rattle.std.specs.Prelude.{◌⊎◌}
use Rattle.descriptor.specs.declared.State.{State}
use Rattle.descriptor.specs.declared.State.TheVariants.{Owned, SharedOwned, SharedBorrowed}
use Rattle.page_state.specs.declared.row.Row.{Row}
use Rattle.page_state.specs.declared.row.Lent.{Lent}
use Rattle.page_state.specs.declared.row.Usage.TheVariants.{Plain, SharedPool, VmPool, InHand}
use Rattle.page_state.specs.declared.entry.Entry.TheVariants.{Unmapped}
use Rattle.page_state.specs.EntryTests.{leaf, entry_frame}
use Rattle.page_state.specs.Geometries.{pages_below}
use Rattle.page_state.specs.Layouts.{is_memory}
use Rattle.page_state.specs.LayoutView.{layout_of}
use Rattle.page_state.proofs.Common.{eq-same, eq-self}
use Rattle.reference_model.specs.help.Conditions.{Condition, outside, hosts, with_hyp, hyps, with_guest, guests, lent_back, guest_condition, in_shared, in_vm, in_hand, is_inside, one, row_in, GuestFits, IsGood, IsMemoryLeaf}
use Rattle.freedoms.specs.AnyTrees.{AreFramesLegal}
use Rattle.ghost_spec.specs.declared.lists.GhostLists.{GhostLists}
use Rattle.ghost_spec.specs.States.{contents_in}
use Rattle.ghost_legal.specs.declared.finding.Holder.{Holder}
use Rattle.ghost_legal.specs.declared.finding.Holder.TheVariants.{SharedPool as SharedPoolHolder, VmPool as VmPoolHolder, Table, Hand, Guest}
use Rattle.ghost_legal.specs.declared.held.Held.{Held}
use Rattle.ghost_legal.specs.AllHeld.{held_count, AreAllHeld, GuestPagesFit, IsGuestPage, IsHypBelow}
use Rattle.ghost_legal.specs.Facts.{condition_by, held_in, table_use, unheld_in, Fits, IsCondition}
use Rattle.ghost_legal.specs.Frames.{facts_in, held_at, held_frames}
use Rattle.ghost_legal.specs.Ranges.{AreInOrder}
use Rattle.ghost_legal.proofs.Counted.{counted, found-held, held-found, passes}

-- conditions

pub is-guest : (h : Holder) (v g : ℕ) (s : State) → held_in h ≡ guest_condition s v g → h ≡ Guest v g s
is-guest SharedPoolHolder v g Owned e = cc
is-guest SharedPoolHolder v g SharedOwned e = cc
is-guest SharedPoolHolder v g SharedBorrowed e = cc
is-guest (VmPoolHolder u) v g Owned e = cc
is-guest (VmPoolHolder u) v g SharedOwned e = cc
is-guest (VmPoolHolder u) v g SharedBorrowed e = cc
is-guest (Table at) v g Owned e = cc
is-guest (Table at) v g SharedOwned e = cc
is-guest (Table at) v g SharedBorrowed e = cc
is-guest (Hand c) v g Owned e = cc
is-guest (Hand c) v g SharedOwned e = cc
is-guest (Hand c) v g SharedBorrowed e = cc
is-guest (Guest u p Owned) v g Owned e = cc
is-guest (Guest u p Owned) v g SharedOwned e = cc
is-guest (Guest u p Owned) v g SharedBorrowed e = cc
is-guest (Guest u p SharedOwned) v g Owned e = cc
is-guest (Guest u p SharedOwned) v g SharedOwned e = cc
is-guest (Guest u p SharedOwned) v g SharedBorrowed e = cc
is-guest (Guest u p SharedBorrowed) v g Owned e = cc
is-guest (Guest u p SharedBorrowed) v g SharedOwned e = cc
is-guest (Guest u p SharedBorrowed) v g SharedBorrowed e = cc

pub held-inside : (h : Holder) → is_inside (held_in h) ≡ true
held-inside SharedPoolHolder = refl
held-inside (VmPoolHolder u) = refl
held-inside (Table at) = refl
held-inside (Hand c) = refl
held-inside (Guest u p Owned) = refl
held-inside (Guest u p SharedOwned) = refl
held-inside (Guest u p SharedBorrowed) = refl

-- the condition of a frame that nothing has
abbrev alone : Bool → Row → Condition
alone m r = cond m (unheld_in r) outside

-- of such a condition nothing is asked, no place holds the frame, and no guest maps it
record IsAlone (c : Condition) : Type 0 where
  shared : in_shared c ≡ false
  vm : (v : ℕ) → in_vm v c ≡ false
  hand : (k : ℕ) → in_hand k c ≡ false
  guest : (v g : ℕ) (s : State) → c ≡ guest_condition s v g → ⊥

no-guest : (c : Condition)
    → ((v g : ℕ) → c ≡ guests v g → ⊥)
    → ((v g : ℕ) → c ≡ lent_back v g → ⊥)
    → ((v g : ℕ) → c ≡ with_guest v g → ⊥)
    → (v g : ℕ) (s : State)
    → c ≡ guest_condition s v g
    → ⊥
no-guest c a b d v g Owned e = a v g e
no-guest c a b d v g SharedOwned e = b v g e
no-guest c a b d v g SharedBorrowed e = d v g e

alone-outside : IsAlone outside
alone-outside =
    record {
      shared = refl;
      vm = λ v. refl;
      hand = λ k. refl;
      guest = no-guest outside (λ v g e. absurd (cc)) (λ v g e. absurd (cc)) (λ v g e. absurd (cc));
    }

alone-hosts : IsAlone hosts
alone-hosts =
    record {
      shared = refl;
      vm = λ v. refl;
      hand = λ k. refl;
      guest = no-guest hosts (λ v g e. absurd (cc)) (λ v g e. absurd (cc)) (λ v g e. absurd (cc));
    }

alone-hyp : IsAlone with_hyp
alone-hyp =
    record {
      shared = refl;
      vm = λ v. refl;
      hand = λ k. refl;
      guest = no-guest with_hyp (λ v g e. absurd (cc)) (λ v g e. absurd (cc)) (λ v g e. absurd (cc));
    }

alone-plain : IsAlone (hyps Plain)
alone-plain =
    record {
      shared = refl;
      vm = λ v. refl;
      hand = λ k. refl;
      guest = no-guest (hyps Plain) (λ v g e. absurd (cc)) (λ v g e. absurd (cc)) (λ v g e. absurd (cc));
    }

unheld-alone : (b : Bool) (o : Option Lent)
    → IsAlone (cond b (hyps Plain) (elim o [ Some l ↦ with_hyp | None ↦ hosts ]))
unheld-alone true o = alone-plain
unheld-alone false None = alone-hosts
unheld-alone false (Some l) = alone-hyp

is-alone : (m : Bool) (r : Row) → IsAlone (alone m r)
is-alone false r = alone-outside
is-alone true r = unheld-alone (r.owner.0 == 1) r.lent

unheld-inside : (b : Bool) (o : Option Lent)
    → is_inside (cond b (hyps Plain) (elim o [ Some l ↦ with_hyp | None ↦ hosts ])) ≡ true
unheld-inside true o = refl
unheld-inside false None = refl
unheld-inside false (Some l) = refl

alone-inside : (m : Bool) (r : Row) → is_inside (alone m r) ≡ m
alone-inside false r = refl
alone-inside true r = unheld-inside (r.owner.0 == 1) r.lent

unheld-good : (l : _) (b : Bool) (o : Option Lent)
    → IsGood l (cond b (hyps Plain) (elim o [ Some x ↦ with_hyp | None ↦ hosts ]))
unheld-good l true o = tt
unheld-good l false None = tt
unheld-good l false (Some x) = tt

alone-good : (l : _) (m : Bool) (r : Row) → IsGood l (alone m r)
alone-good l false r = tt
alone-good l true r = unheld-good l (r.owner.0 == 1) r.lent

-- by what has a frame
by-holder : (o : Option Holder) (m : Bool) (r : Row) → Condition
by-holder o m r = elim o [ Some h ↦ held_in h | None ↦ alone m r ]

passed : (test : Condition → Bool) (o : Option Holder) (m : Bool) (r : Row)
    → test (alone m r) ≡ false
    → one (passes (λ h. test (held_in h)) o) ≡ one (test (elim o [ Some h ↦ held_in h | None ↦ alone m r ]))
passed test None m r e = ap one (sym e)
passed test (Some h) m r e = refl

one-same : (a b : Bool) → one a ≡ one b → a ≡ b
one-same true true e = refl
one-same true false e = cc
one-same false true e = cc
one-same false false e = refl

one-true : (b : Bool) → one b ≡ 1 → b ≡ true
one-true true e = refl
one-true false e = cc

pub guest-good : (l : _) (s : State) (v p : ℕ) → IsGood l (guest_condition s v p) → (v < 64) × (p < pages_below l.depth)
guest-good l Owned v p h = h
guest-good l SharedOwned v p h = h
guest-good l SharedBorrowed v p h = h

pub shared-is : (c : Condition) → one (in_shared c) ≡ 1 → c ≡ hyps SharedPool
shared-is outside e = cc
shared-is hosts e = cc
shared-is with_hyp e = cc
shared-is (hyps Plain) e = cc
shared-is (hyps SharedPool) e = refl
shared-is (hyps (VmPool v)) e = cc
shared-is (hyps (InHand k)) e = cc
shared-is (with_guest v g) e = cc
shared-is (guests v g) e = cc
shared-is (lent_back v g) e = cc

pub vm-is : (c : Condition) (v : ℕ) → one (in_vm v c) ≡ 1 → c ≡ hyps (VmPool v)
vm-is outside v e = cc
vm-is hosts v e = cc
vm-is with_hyp v e = cc
vm-is (hyps Plain) v e = cc
vm-is (hyps SharedPool) v e = cc
vm-is (hyps (VmPool u)) v e = ap (λ n. hyps (VmPool n)) (eq-same u v (one-true (u == v) e))
vm-is (hyps (InHand k)) v e = cc
vm-is (with_guest u g) v e = cc
vm-is (guests u g) v e = cc
vm-is (lent_back u g) v e = cc

pub hand-is : (c : Condition) (k : ℕ) → one (in_hand k c) ≡ 1 → c ≡ hyps (InHand k)
hand-is outside k e = cc
hand-is hosts k e = cc
hand-is with_hyp k e = cc
hand-is (hyps Plain) k e = cc
hand-is (hyps SharedPool) k e = cc
hand-is (hyps (VmPool u)) k e = cc
hand-is (hyps (InHand d)) k e = ap (λ n. hyps (InHand n)) (eq-same d k (one-true (d == k) e))
hand-is (with_guest u g) k e = cc
hand-is (guests u g) k e = cc
hand-is (lent_back u g) k e = cc

module _ (g : GhostLists) (hs : List Held) (o : AreInOrder held_frames hs) (a : AreAllHeld g hs) where
  -- from each frame's one condition to the state
  module _ (each : (f : ℕ) → IsCondition f (facts_in g hs f))
      (pages : GuestPagesFit (layout_of g.layout) (contents_in g)) (low : IsHypBelow (contents_in g)) where
    abbrev c : ℕ → Condition
    c f = condition_by (facts_in g hs f)

    abbrev m : ℕ → Bool
    m f = (facts_in g hs f).memory

    abbrev r : ℕ → Row
    r f = (facts_in g hs f).row

    inside-by : (f : ℕ) (x : Option Holder)
        → held_at hs f ≡ x
        → is_inside (elim x [ Some h ↦ held_in h | None ↦ alone (m f) (r f) ]) ≡ m f
    inside-by f None e = alone-inside (m f) (r f)
    inside-by f (Some h) e = held-inside h ∙ sym ((each f).inside h e)

    good-by : (f : ℕ) (x : Option Holder)
        → held_at hs f ≡ x
        → IsGood (layout_of g.layout) (elim x [ Some h ↦ held_in h | None ↦ alone (m f) (r f) ])
    good-by f None e = alone-good (layout_of g.layout) (m f) (r f)
    good-by f (Some h) e = a.good f h e

    leaf-held : (v p f : ℕ) (s : State)
        → IsMemoryLeaf f s (((contents_in g).guest v).tree.map p)
        → c f ≡ guest_condition s v p
    leaf-held v p f s k =
        let e = held-found hs (Guest v p s) f o ((a.guest v p f s).0 k) in
        ap (λ x. elim x [ Some h ↦ held_in h | None ↦ alone (m f) (r f) ]) e ∙ at-state s
      where
        at-state : (s : State) → held_in (Guest v p s) ≡ guest_condition s v p
        at-state Owned = refl
        at-state SharedOwned = refl
        at-state SharedBorrowed = refl

    held-leaf : (v p f : ℕ) (s : State)
        → c f ≡ guest_condition s v p
        → IsMemoryLeaf f s (((contents_in g).guest v).tree.map p)
    held-leaf v p f s e = by (held_at hs f) refl e
      where
        by : (x : Option Holder)
            → held_at hs f ≡ x
            → elim x [ Some h ↦ held_in h | None ↦ alone (m f) (r f) ] ≡ guest_condition s v p
            → IsMemoryLeaf f s (((contents_in g).guest v).tree.map p)
        by None k e = absurd ((is-alone (m f) (r f)).guest v p s e)
        by (Some h) k e = (a.guest v p f s).1 (found-held hs (Guest v p s) f (k ∙ ap Some (is-guest h v p s e)))

    fits-page : (v p : ℕ)
        → (((contents_in g).guest v).tree.map p ≡ Unmapped)
        ⊎ IsGuestPage (layout_of g.layout) v p (((contents_in g).guest v).tree.map p)
        → GuestFits c v p (((contents_in g).guest v).tree.map p)
    fits-page v p (inl e) = inl e
    fits-page v p (inr k) =
        inr
        (record {
          frame = k.frame;
          prot = k.prot;
          state = k.state;
          leaf_is = k.leaf_is;
          named = leaf-held v p k.frame k.state (k.prot, k.leaf_is);
        })

    pub frames-legal : AreFramesLegal (layout_of g.layout) (contents_in g)
    frames-legal = record {
      condition = c;
      of_layout = record { inside = λ f. inside-by f (held_at hs f) refl; good = λ f. good-by f (held_at hs f) refl };
      maps = record {
        host = λ p. (each p).fits.host;
        hyp = λ f. (each f).fits.hyp;
        hyp_below = low;
        guest = λ v p. fits-page v p (pages v p);
        guest_has = λ v p f s e. held-leaf v p f s e;
      };
      held = record {
        shared =
            λ f. a.counted.shared f ∙ counted (λ h. in_shared (held_in h)) f hs o
            ∙ passed in_shared (held_at hs f) (m f) (r f) (is-alone (m f) (r f)).shared;
        vm =
            λ v f. a.counted.vm v f ∙ counted (λ h. in_vm v (held_in h)) f hs o
            ∙ passed (in_vm v) (held_at hs f) (m f) (r f) ((is-alone (m f) (r f)).vm v);
        hand =
            λ k f. one-same _ _
            (a.counted.hand k f ∙ counted (λ h. in_hand k (held_in h)) f hs o
            ∙ passed (in_hand k) (held_at hs f) (m f) (r f) ((is-alone (m f) (r f)).hand k));
      };
      rows = λ f e. (each f).fits.row e;
    }

  -- from the state to each frame's one condition
  module _ (k : AreFramesLegal (layout_of g.layout) (contents_in g)) where
    held-by : (h : Holder) (f : ℕ)
        → held_at hs f ≡ Some h
        → (test : Condition → Bool)
        → test (held_in h) ≡ true
        → held_count (λ h. test (held_in h)) f hs ≡ 1
    held-by h f e test t =
        counted (λ h. test (held_in h)) f hs o ∙ ap (λ x. one (passes (λ h. test (held_in h)) x)) e ∙ ap one t

    by-table : (t f u : ℕ)
        → u ≡ t
        → (h : Holder)
        → held_in h ≡ hyps (table_use u)
        → held_at hs f ≡ Some h
        → k.condition f ≡ hyps (table_use u)
    by-table t f zero e h i at =
        shared-is (k.condition f)
        (sym (k.held.shared f) ∙ a.counted.shared f ∙ held-by h f at in_shared (ap in_shared i))
    by-table t f (suc zero) e h i at =
        shared-is (k.condition f)
        (sym (k.held.shared f) ∙ a.counted.shared f ∙ held-by h f at in_shared (ap in_shared i))
    by-table t f (suc (suc v)) e h i at =
        vm-is (k.condition f) v
        (sym (k.held.vm v f) ∙ a.counted.vm v f ∙ held-by h f at (in_vm v) (ap (in_vm v) i ∙ eq-self v))

    named-by : (h : Holder) (f : ℕ) → held_at hs f ≡ Some h → k.condition f ≡ held_in h
    named-by SharedPoolHolder f e =
        shared-is (k.condition f)
        (sym (k.held.shared f) ∙ a.counted.shared f ∙ held-by SharedPoolHolder f e in_shared refl)
    named-by (VmPoolHolder v) f e =
        vm-is (k.condition f) v
        (sym (k.held.vm v f) ∙ a.counted.vm v f ∙ held-by (VmPoolHolder v) f e (in_vm v) (eq-self v))
    named-by (Table at) f e = by-table at.tree f at.tree refl (Table at) refl e
    named-by (Hand n) f e =
        hand-is (k.condition f) n
        (sym (ap one (k.held.hand n f)) ∙ a.counted.hand n f ∙ held-by (Hand n) f e (in_hand n) (eq-self n))
    named-by (Guest v p s) f e = by-leaf (k.maps.guest v p)
      where
        mapped : IsMemoryLeaf f s (((contents_in g).guest v).tree.map p)
        mapped = (a.guest v p f s).1 (found-held hs (Guest v p s) f e)

        by-leaf : GuestFits k.condition v p (((contents_in g).guest v).tree.map p)
            → k.condition f ≡ guest_condition s v p
        by-leaf (inl u) = let no : leaf mapped.0 f s ≡ Unmapped = sym mapped.1 ∙ u in absurd (cc)
        by-leaf (inr x) = let same : leaf x.prot x.frame x.state ≡ leaf mapped.0 f s = sym x.leaf_is ∙ mapped.1 in
            let e : f ≡ x.frame = sym (ap entry_frame same) in
            let d : s ≡ x.state = cc in
            ap k.condition e ∙ x.named ∙ ap (λ z. guest_condition z v p) (sym d)

    none-count : (f : ℕ) → held_at hs f ≡ None → (test : Condition → Bool) → held_count (λ h. test (held_in h)) f hs ≡ 0
    none-count f e test = counted (λ h. test (held_in h)) f hs o ∙ ap (λ x. one (passes (λ h. test (held_in h)) x)) e

    no-leaf : (f v p : ℕ) (s : State) → held_at hs f ≡ None → k.condition f ≡ guest_condition s v p → ⊥
    no-leaf f v p s e n = let at = held-found hs (Guest v p s) f o ((a.guest v p f s).0 (k.maps.guest_has v p f s n)) in
        let bad : None ≡ Some (Guest v p s) = sym e ∙ at in
        cc

    -- the condition of a frame that nothing has
    alone-by : (f : ℕ) (c : Condition)
        → k.condition f ≡ c
        → held_at hs f ≡ None
        → alone (is_memory (layout_of g.layout) f) ((contents_in g).shared.row f) ≡ c
    alone-by f outside e n = let no : is_memory (layout_of g.layout) f ≡ false =
        sym (k.of_layout.inside f) ∙ ap is_inside e in
        ap (λ b. alone b ((contents_in g).shared.row f)) no
    alone-by f hosts e n =
        let in-memory : is_memory (layout_of g.layout) f ≡ true = sym (k.of_layout.inside f) ∙ ap is_inside e in
        ap (λ b. alone b ((contents_in g).shared.row f)) in-memory ∙ ap unheld_in (k.rows f in-memory ∙ ap (row_in f) e)
    alone-by f with_hyp e n =
        let in-memory : is_memory (layout_of g.layout) f ≡ true = sym (k.of_layout.inside f) ∙ ap is_inside e in
        ap (λ b. alone b ((contents_in g).shared.row f)) in-memory ∙ ap unheld_in (k.rows f in-memory ∙ ap (row_in f) e)
    alone-by f (hyps Plain) e n =
        let in-memory : is_memory (layout_of g.layout) f ≡ true = sym (k.of_layout.inside f) ∙ ap is_inside e in
        ap (λ b. alone b ((contents_in g).shared.row f)) in-memory ∙ ap unheld_in (k.rows f in-memory ∙ ap (row_in f) e)
    alone-by f (hyps SharedPool) e n = let bad : 1 ≡ 0 =
        sym (k.held.shared f ∙ ap (λ c. one (in_shared c)) e) ∙ a.counted.shared f ∙ none-count f n in_shared in
        absurd (omega (arith, bad))
    alone-by f (hyps (VmPool v)) e n = let bad : 1 ≡ 0 =
        sym (k.held.vm v f ∙ ap (λ c. one (in_vm v c)) e ∙ ap one (eq-self v)) ∙ a.counted.vm v f
        ∙ none-count f n (in_vm v) in
        absurd (omega (arith, bad))
    alone-by f (hyps (InHand c)) e n = let bad : 1 ≡ 0 =
        sym (ap one (k.held.hand c f) ∙ ap (λ d. one (in_hand c d)) e ∙ ap one (eq-self c)) ∙ a.counted.hand c f
        ∙ none-count f n (in_hand c) in
        absurd (omega (arith, bad))
    alone-by f (with_guest v p) e n = absurd (no-leaf f v p SharedBorrowed n e)
    alone-by f (guests v p) e n = absurd (no-leaf f v p Owned n e)
    alone-by f (lent_back v p) e n = absurd (no-leaf f v p SharedOwned n e)

    same-by : (f : ℕ) (x : Option Holder)
        → held_at hs f ≡ x
        → elim x [ Some h ↦ held_in h | None ↦ alone (is_memory (layout_of g.layout) f) ((contents_in g).shared.row f) ]
        ≡ k.condition f
    same-by f None e = alone-by f (k.condition f) refl e
    same-by f (Some h) e = sym (named-by h f e)

    pub each-condition : (f : ℕ) → IsCondition f (facts_in g hs f)
    each-condition f =
        let same : condition_by (facts_in g hs f) ≡ k.condition f = same-by f (held_at hs f) refl in
        record {
          inside = λ h e. sym (k.of_layout.inside f) ∙ ap is_inside (named-by h f e) ∙ held-inside h;
          fits =
              subst (λ c. Fits f c (facts_in g hs f)) (sym same)
              (record { host = k.maps.host f; hyp = k.maps.hyp f; row = k.rows f });
        }

    pub guest-pages : GuestPagesFit (layout_of g.layout) (contents_in g)
    guest-pages v p = by (k.maps.guest v p)
      where
        by : GuestFits k.condition v p (((contents_in g).guest v).tree.map p)
            → (((contents_in g).guest v).tree.map p ≡ Unmapped)
            ⊎ IsGuestPage (layout_of g.layout) v p (((contents_in g).guest v).tree.map p)
        by (inl e) = inl e
        by (inr x) =
            let is : IsGood (layout_of g.layout) (guest_condition x.state v p) =
            subst (IsGood (layout_of g.layout)) x.named (k.of_layout.good x.frame) in
            let good = guest-good (layout_of g.layout) x.state v p is in
            inr
            (record {
              frame = x.frame;
              prot = x.prot;
              state = x.state;
              leaf_is = x.leaf_is;
              slot = good.0;
              below = good.1;
            })

    pub hyp-below : IsHypBelow (contents_in g)
    hyp-below = k.maps.hyp_below
