-- A range of frames that a call moves to one condition, by the entries that its pages get.
use Rattle.std.proofs.Common.{◌≡◌, ℕ, ◌+◌, ◌-◌, ◌≤◌, ◌<◌, refl, ap, sym, ◌∙◌, subst, arith, inl, inr}
use Rattle.std.specs.Prelude.{Bool, true, false, not, ◌&&◌, ◌==◌, nat_le, unwrap_or, Option, Some, None, is_some}
use Rattle.std.proofs.lemmas.Bool.Decides.{nat_tests}
use Rattle.descriptor.specs.declared.Prot.{Prot}
use Rattle.descriptor.specs.declared.Prot.TheVariants.{RW}
use Rattle.descriptor.specs.declared.State.{State}
use Rattle.descriptor.specs.declared.State.TheVariants.{Owned}
use Rattle.page_state.specs.declared.entry.Entry.{Entry}
use Rattle.page_state.specs.declared.entry.Entry.TheVariants.{Unmapped}
use Rattle.page_state.specs.declared.entry.PageRange.{PageRange}
use Rattle.call_table.specs.declared.reply.Value.{Value}
use Rattle.page_state.specs.declared.row.Usage.{Usage}
use Rattle.page_state.specs.declared.row.Usage.TheVariants.{InHand}
use Rattle.page_state.specs.Entries.{advance}
use Rattle.page_state.specs.EntryTests.{is_free_page, leaf, annotation}
use Rattle.page_state.specs.Geometries.{pages_below}
use Rattle.page_state.specs.Layouts.{Layout, is_memory, is_good_range, is_good_page, hyp_page}
use Rattle.page_state.specs.Map.{is_within}
use Rattle.page_state.specs.Search.{all_below}
use Rattle.reference_model.specs.declared.changes.Changes.{Changes}
use Rattle.reference_model.specs.declared.changes.CpuChange.{CpuChange}
use Rattle.reference_model.specs.declared.changes.GuestChange.{GuestChange}
use Rattle.reference_model.specs.model.Changes.{cpu_by, change, no_changes}
use Rattle.reference_model.specs.help.ConditionChanges.{touched_condition}
use Rattle.reference_model.specs.help.Conditions.{Condition, outside, hosts, with_hyp, hyps, with_guest, guests, lent_back, HostFits, hyp_entry_by, Legal, IsUsable, row_in, in_shared, in_hand, is_inside, IsGood}
use Rattle.reference_model.specs.model.GuestRules.{are_good_pages}
use Rattle.reference_model.specs.model.Owner.{is_in_hand}
use Rattle.reference_model.specs.help.RowChanges.{touched_row, use_by}
use Rattle.reference_model.specs.model.SharedRules.{hand_of, no_range}
use Rattle.reference_model.specs.model.State.{Cpu, Contents, put_at}
use Rattle.page_state.proofs.Blocks.{all_from-each}
use Rattle.page_state.proofs.Common.{both, eq-same, if-true, if-false, and-both}
use Rattle.reference_model.proofs.conditions.FrameMoves.{FramesMove}
use Rattle.reference_model.proofs.conditions.Moves.{moved_to, always, host-moved, hyp-moved, hyp-below, moved-in, moved-out, moved-fact, cpu-fact}

-- frames of a range

pub within-is : (f n p : ℕ) → is_within f n p ≡ true → (f ≤ p) × (p < f + n)
within-is f n p h = (grind (arith, nat_tests), grind (arith, nat_tests))

pub within-made : (f n p : ℕ) → f ≤ p → p < f + n → is_within f n p ≡ true
within-made f n p low high = grind (arith, nat_tests)

pub one-within : (f p : ℕ) → is_within f 1 p ≡ true → f ≡ p
one-within f p h = let w = within-is f 1 p h in omega arith

pub range-all : (f n : ℕ) (test : ℕ → Bool)
    → all_below n (λ i. test (f + i)) ≡ true
    → (p : ℕ)
    → is_within f n p ≡ true
    → test p ≡ true
range-all f n test h p w =
    let at = within-is f n p w in
    let low : f ≤ p = at.0 in
    let high : p < f + n = at.1 in
    let e : f + (p - f) ≡ p = omega arith in
    subst (λ q. test q ≡ true) e (all_from-each 0 n (λ i. test (f + i)) h (p - f) (omega arith) (omega arith))

pub advance-leaf : (prot : Prot) (f n p : ℕ) (state : State)
    → is_within f n p ≡ true
    → advance (leaf prot f state) (p - f) ≡ leaf prot p state
advance-leaf prot f n p state w =
    let at = within-is f n p w in
    let low : f ≤ p = at.0 in
    let e : f + (p - f) ≡ p = omega arith in
    ap (λ q. leaf prot q state) e

pub range-advance : (f n q : ℕ) → is_within f n q ≡ true → q ≡ f + (q - f)
range-advance f n q w = let at = within-is f n q w in let low : f ≤ q = at.0 in omega arith

-- a fact of a frame is one of the range of that frame
pub one-frame : (f : ℕ) (P : ℕ → Type 0) → P f → (q : ℕ) → is_within f 1 q ≡ true → P q
one-frame f P p q w = subst P (one-within f q w) p

-- a memory range lies in the trees
pub range-in : (l : Layout)
    → IsUsable l
    → (f n : ℕ)
    → 1 ≤ n
    → ((p : ℕ) → is_within f n p ≡ true → is_memory l p ≡ true)
    → hyp_page f + n ≤ pages_below l.depth
range-in l usable f n some all =
    let less = usable.pages (f + n - 1) (all (f + n - 1) (within-made f n (f + n - 1) (omega arith) (omega arith))) in
    omega arith

pub good-range : (l : Layout) (f n : ℕ)
    → is_good_range l f n ≡ true
    → (1 ≤ n) × ((p : ℕ) → is_within f n p ≡ true → is_memory l p ≡ true)
good-range l f n h = let a = go (nat_le 1 n) (nat_le n 512) (all_below n (λ i. is_memory l (f + i))) h in
    (some (a.0), range-all f n (λ p. is_memory l p) a.1)
  where
    go : (a b c : Bool) → (a && b && c) ≡ true → (a ≡ true) × (c ≡ true)
    go true true c h = (refl, h)
    go true false c h = cc
    go false b c h = cc

    some : nat_le 1 n ≡ true → 1 ≤ n
    some h = grind (arith, nat_tests)

-- good pages of a guest lie in its tree
pub good-pages : (l : Layout) (g n : ℕ) → 1 ≤ n → are_good_pages l g n ≡ true → g + n ≤ pages_below l.depth
good-pages l g n some h =
    let t : is_good_page l (g + (n - 1)) ≡ true =
    all_from-each 0 n (λ i. is_good_page l (g + i)) h (n - 1) (omega arith) (omega arith) in
    let less : g + (n - 1) < pages_below l.depth = grind (arith, nat_tests) in
    omega arith

-- two tests that hold along two ranges, one of each
pub both-all : (f g n : ℕ) (a b : ℕ → Bool)
    → all_below n (λ i. a (f + i) && b (g + i)) ≡ true
    → (q : ℕ)
    → is_within f n q ≡ true
    → (a q ≡ true) × (b (g + (q - f)) ≡ true)
both-all f g n a b h q w =
    let at = within-is f n q w in
    let low : f ≤ q = at.0 in
    let high : q < f + n = at.1 in
    let e : f + (q - f) ≡ q = omega arith in
    let t =
    and-both (a (f + (q - f))) (b (g + (q - f)))
    (all_from-each 0 n (λ i. a (f + i) && b (g + i)) h (q - f) (omega arith) (omega arith)) in
    (subst (λ p. a p ≡ true) e t.0, t.1)

pub second-all : (f g n : ℕ) (a b : ℕ → Bool)
    → all_below n (λ i. a (f + i) && b (g + i)) ≡ true
    → (p : ℕ)
    → is_within g n p ≡ true
    → b p ≡ true
second-all f g n a b h p w =
    let at = within-is g n p w in
    let low : g ≤ p = at.0 in
    let high : p < g + n = at.1 in
    let e : g + (p - g) ≡ p = omega arith in
    let t =
    and-both (a (f + (p - g))) (b (g + (p - g)))
    (all_from-each 0 n (λ i. a (f + i) && b (g + i)) h (p - g) (omega arith) (omega arith)) in
    subst (λ k. b k ≡ true) e t.1

pub free-hosts : (f : ℕ) (c : Condition) (e : Entry)
    → is_inside c ≡ true
    → HostFits f c e
    → is_free_page e ≡ true
    → c ≡ hosts
free-hosts f outside e i h t = cc
free-hosts f hosts e i h t = refl
free-hosts f with_hyp e i h t = let bad : false ≡ true = sym (ap is_free_page h) ∙ t in cc
free-hosts f (hyps u) e i h t = let bad : false ≡ true = sym (ap is_free_page h) ∙ t in cc
free-hosts f (with_guest v g) e i h t = let bad : false ≡ true = sym (ap is_free_page h) ∙ t in cc
free-hosts f (guests v g) e i h t = let bad : false ≡ true = sym (ap is_free_page h) ∙ t in cc
free-hosts f (lent_back v g) e i h t = let bad : false ≡ true = sym (ap is_free_page h) ∙ t in cc

-- hands

pub in_hand-hyps : (d : ℕ) (c : Condition) → in_hand d c ≡ true → c ≡ hyps (InHand d)
in_hand-hyps d (hyps (InHand u)) h = ap (λ n. hyps (InHand n)) (eq-same u d h)
in_hand-hyps d c h = cc

pub hand-range : (o : Option PageRange) (q : ℕ)
    → is_some o ≡ true
    → is_in_hand o q ≡ is_within (unwrap_or o no_range).first.0 (unwrap_or o no_range).count q
hand-range (Some r) q h = refl
hand-range None q h = cc

pub hand-some : (o : Option PageRange)
    → is_some o ≡ true
    → ((r : PageRange) → o ≡ Some r → 1 ≤ r.count)
    → 1 ≤ (unwrap_or o no_range).count
hand-some (Some r) h k = k r refl
hand-some None h k = cc

module _ {l : Layout} {s : Contents} (legal : Legal l s) where
  pub free-is : (f : ℕ) → is_memory l f ≡ true → is_free_page (s.shared.host.map f) ≡ true → legal.condition f ≡ hosts
  free-is f m h =
      free-hosts f (legal.condition f) (s.shared.host.map f) (legal.of_layout.inside f ∙ m) (legal.maps.host f) h

  -- the frames of a CPU's hand
  pub hand-was : (cpu : ℕ)
      → is_some (s.cpu cpu).hand ≡ true
      → (q : ℕ)
      → is_within (hand_of (s.cpu cpu)).first.0 (hand_of (s.cpu cpu)).count q ≡ true
      → legal.condition q ≡ hyps (InHand cpu)
  hand-was cpu some q w =
      in_hand-hyps cpu (legal.condition q) (sym (legal.held.hand cpu q) ∙ hand-range (s.cpu cpu).hand q some ∙ w)

  -- frames of a condition that is a memory frame's
  pub memory-of : (c : Condition)
      → is_inside c ≡ true
      → (first n : ℕ)
      → ((q : ℕ) → is_within first n q ≡ true → legal.condition q ≡ c)
      → (q : ℕ)
      → is_within first n q ≡ true
      → is_memory l q ≡ true
  memory-of c inside first n was q w = sym (legal.of_layout.inside q) ∙ ap is_inside (was q w) ∙ inside

  -- the hands, where the CPU's stays and no frame of the range goes into one or out of one
  pub hands-stay : (cpu : ℕ) (k : CpuChange) (c : ℕ → Condition) (first n : ℕ)
      → (cpu_by k (s.cpu cpu)).hand ≡ (s.cpu cpu).hand
      → ((d q : ℕ) → is_within first n q ≡ true → in_hand d (legal.condition q) ≡ in_hand d (c q))
      → (d q : ℕ)
      → is_in_hand (put_at s.cpu cpu (cpu_by k (s.cpu cpu)) d).hand q ≡ in_hand d (moved_to c first n legal.condition q)
  hands-stay cpu k c first n same stay d q =
      ap (λ h. is_in_hand h q) (cpu-fact (λ (j : Cpu). j.hand) s.cpu cpu (cpu_by k (s.cpu cpu)) d same)
      ∙ legal.held.hand d q ∙ moved-fact (in_hand d) c first n legal.condition q (stay d q)

  -- the hands after the CPU's was emptied
  pub hands-emptied : (cpu : ℕ) (k : CpuChange) (c : Condition)
      → (cpu_by k (s.cpu cpu)).hand ≡ None
      → is_some (s.cpu cpu).hand ≡ true
      → ((d : ℕ) → in_hand d c ≡ false)
      → (d q : ℕ)
      → is_in_hand (put_at s.cpu cpu (cpu_by k (s.cpu cpu)) d).hand q
      ≡ in_hand d (moved_to (always c) (hand_of (s.cpu cpu)).first.0 (hand_of (s.cpu cpu)).count legal.condition q)
  hands-emptied cpu k c none some free d q =
      let hand = hand_of (s.cpu cpu) in
      let new = cpu_by k (s.cpu cpu) in
      elim (both (d == cpu)) [
        | inl e ↦ ap (λ (j : Cpu). is_in_hand j.hand q) (if-true (d == cpu) new (s.cpu d) e)
            ∙ ap (λ o. is_in_hand o q) none ∙ elim (both (is_within hand.first.0 hand.count q)) [
              | inl w ↦ sym (ap (in_hand d) (moved-in (always c) hand.first.0 hand.count legal.condition q w) ∙ free d)
              | inr w ↦ sym
                  (ap (in_hand d) (moved-out (always c) hand.first.0 hand.count legal.condition q w)
                  ∙ sym (legal.held.hand d q) ∙ ap (λ j. is_in_hand (s.cpu j).hand q) (eq-same d cpu e)
                  ∙ hand-range (s.cpu cpu).hand q some ∙ w)
            ]
        | inr e ↦ ap (λ (j : Cpu). is_in_hand j.hand q) (if-false (d == cpu) new (s.cpu d) e) ∙ legal.held.hand d q
            ∙ moved-fact (in_hand d) (always c) hand.first.0 hand.count legal.condition q
            (λ w. ap (in_hand d) (hand-was cpu some q w) ∙ other d e ∙ sym (free d))
      ]
    where
      other : (d : ℕ) → (d == cpu) ≡ false → (cpu == d) ≡ false
      other d e = grind (arith, nat_tests)

-- a range of frames gets an entry on the host's pages and one on the hypervisor's
abbrev pub range_changes : (first n : ℕ) (e e' : Entry) (part : GuestChange) (k : CpuChange) (value : Value) → Changes
range_changes first n e e' part k value =
    record no_changes
    { host = change first n e; hyp = change (hyp_page first) n e'; part = part; cpu = k; value = value }

module _ {l : Layout} {s : Contents} (legal : Legal l s) (usable : IsUsable l) (cpu : ℕ) (slot : Option ℕ)
    (part : GuestChange) (k : CpuChange) (value : Value) where
  -- where the frames of the range stand before, and how after
  pub record RangeMove (first n : ℕ) (e e' : Entry) (old c : Condition) : Type 0 where
    pub some : 1 ≤ n
    pub memory : (q : ℕ) → is_within first n q ≡ true → is_memory l q ≡ true
    pub was : (q : ℕ) → is_within first n q ≡ true → legal.condition q ≡ old
    pub inside : is_inside c ≡ true
    pub good : IsGood l c
    pub same_use : in_shared old ≡ in_shared c
    pub host : (q : ℕ) → is_within first n q ≡ true → HostFits q c (advance e (q - first))
    pub hyp : (q : ℕ) → is_within first n q ≡ true → advance e' (q - first) ≡ hyp_entry_by q c
    pub told : (q : ℕ)
        → is_within first n q ≡ true
        → row_in q c ≡ touched_row cpu slot (range_changes first n e e' part k value) q
    pub goes : (q : ℕ)
        → is_within first n q ≡ true
        → c ≡ touched_condition cpu slot (range_changes first n e e' part k value) q
    pub hand : (d q : ℕ)
        → is_in_hand (put_at s.cpu cpu (cpu_by k (s.cpu cpu)) d).hand q
        ≡ in_hand d (moved_to (always c) first n legal.condition q)
    pub own_hand : (d : ℕ) → in_hand d c ≡ true → d ≡ cpu

  pub range-frames : {first n : ℕ} {e e' : Entry} {old c : Condition}
      → RangeMove first n e e' old c
      → FramesMove l s legal.condition cpu slot (range_changes first n e e' part k value) first n (always c)
  range-frames {first} {n} {e} {e'} {old} {c} m =
      let low = range-in l usable first n m.some m.memory in
      record {
        inside = λ q w. m.memory q w ∙ sym m.inside;
        alike = λ q k w z. refl;
        good = λ q w. m.good;
        same_use = λ q w. ap in_shared (m.was q w) ∙ m.same_use;
        host = host-moved s.shared.host.map first n e (always c) legal.condition m.host legal.maps.host;
        hyp = hyp-moved s.shared.hyp.map first n e' (always c) legal.condition m.hyp legal.maps.hyp;
        hyp_below = hyp-below s.shared.hyp.map first n e' legal.maps.hyp_below;
        touched = λ q. refl;
        told = m.told;
        goes = λ q w i. m.goes q w;
        host_range = let e : first + n ≤ pages_below l.depth = omega arith in e;
        hyp_range = low;
        hand = m.hand;
        own_hand = λ d q w. m.own_hand d;
      }

  -- the host's frames become the hypervisor's, in a use
  pub given-frames : (first n : ℕ) (usage : Usage)
      → 1 ≤ n
      → ((q : ℕ) → is_within first n q ≡ true → legal.condition q ≡ hosts)
      → in_shared (hyps usage) ≡ false
      → use_by cpu k.hand ≡ usage
      → IsGood l (hyps usage)
      → ((d q : ℕ)
      → is_in_hand (put_at s.cpu cpu (cpu_by k (s.cpu cpu)) d).hand q
      ≡ in_hand d (moved_to (always (hyps usage)) first n legal.condition q))
      → ((d : ℕ) → in_hand d (hyps usage) ≡ true → d ≡ cpu)
      → FramesMove l s legal.condition cpu slot
      (range_changes first n (annotation 1) (leaf RW first Owned) part k value) first n (always (hyps usage))
  given-frames first n usage some was apart is good hand own = range-frames (record {
    some = some;
    memory = memory-of legal hosts refl first n was;
    was = was;
    inside = refl;
    good = good;
    same_use = sym apart;
    host = λ q w. refl;
    hyp = λ q w. advance-leaf RW first n q Owned w;
    told = λ q w. ap (λ u. record { owner = record { 0 = 1 }; lent = None; usage = u }) (sym is);
    goes = λ q w. ap hyps (sym is);
    hand = hand;
    own_hand = own;
  })

  -- the hypervisor's frames in a use go back to the host
  pub back-frames : (first n : ℕ) (usage : Usage)
      → 1 ≤ n
      → ((q : ℕ) → is_within first n q ≡ true → legal.condition q ≡ hyps usage)
      → in_shared (hyps usage) ≡ false
      → ((d q : ℕ)
      → is_in_hand (put_at s.cpu cpu (cpu_by k (s.cpu cpu)) d).hand q
      ≡ in_hand d (moved_to (always hosts) first n legal.condition q))
      → FramesMove l s legal.condition cpu slot (range_changes first n Unmapped Unmapped part k value) first n
      (always hosts)
  back-frames first n usage some was apart hand = range-frames (record {
    some = some;
    memory = memory-of legal (hyps usage) refl first n was;
    was = was;
    inside = refl;
    good = tt;
    same_use = apart;
    host = λ q w. inl refl;
    hyp = λ q w. refl;
    told = λ q w. refl;
    goes = λ q w. refl;
    hand = hand;
    own_hand = λ d h. cc;
  })
