-- All pieces of a state have a frame as often as each part holds it.
use Rattle.std.proofs.Common.{◌≡◌, ℕ, zero, suc, ◌+◌, ◌<◌, Bool, true, false, ◌==◌, List, [], ◌∷◌, ◌++◌, map, get_or, Option, Some, None, refl, sym, ap, ◌∙◌, arith, cond}
use Rattle.std.specs.Prelude.{◌&&◌}
use Rattle.std.proofs.lemmas.Bool.Decides.{nat_tests}
use Rattle.descriptor.specs.declared.State.{State}
use Rattle.descriptor.specs.declared.State.TheVariants.{Owned, SharedOwned, SharedBorrowed}
use Rattle.page_state.specs.declared.entry.PageRange.{PageRange}
use Rattle.page_state.specs.declared.row.Usage.TheVariants.{VmPool as VmPoolUse}
use Rattle.page_state.specs.LayoutView.{layout_of}
use Rattle.page_state.specs.Regions.{is_in_range}
use Rattle.page_state.specs.Trees.{no_tree}
use Rattle.page_state.proofs.Cases.{by_eq}
use Rattle.page_state.proofs.Common.{eq-other, eq-self}
use Rattle.reference_model.specs.help.Conditions.{Condition, hyps, guest_condition, in_shared, in_vm, in_hand, one, table_uses, shared_uses, guest_uses}
use Rattle.reference_model.specs.model.Owner.{is_frame, is_in_hand}
use Rattle.reference_model.specs.model.State.{no_guest, no_cpu}
use Rattle.reference_model.proofs.Frames.{count_blocks-none}
use Rattle.ghost_spec.specs.declared.cpu.GhostCpu.{GhostCpu}
use Rattle.ghost_spec.specs.declared.lists.GhostLists.{GhostLists}
use Rattle.ghost_spec.specs.declared.parts.GhostGuest.{GhostGuest}
use Rattle.ghost_spec.specs.States.{contents_in, guest_in}
use Rattle.ghost_spec.specs.Views.{cpu_in}
use Rattle.ghost_legal.specs.declared.finding.Holder.TheVariants.{SharedPool, VmPool, Hand}
use Rattle.ghost_legal.specs.AllHeld.{held_count}
use Rattle.ghost_legal.specs.Blocks.{HasOwnBlocks, HaveOwnBlocks, TreesHaveOwnBlocks}
use Rattle.ghost_legal.specs.Facts.{held_in, table_use}
use Rattle.ghost_legal.specs.Listed.{all_held_in, free_held, guest_held, guests_held, hand_held, hands_held, runs_held, shared_held, tables_held}
use Rattle.ghost_legal.proofs.Counts.{count-append, free-count, free-none, runs-none, tables-count, tables-none}

-- the value of the member at one place, of a list that begins at a number

abbrev picked : {X : Type 0} → (X → ℕ) → ℕ → ℕ → List X → ℕ
picked w v from [] = 0
picked w v from (x ∷ xs) = cond (from == v) (w x) 0 + picked w v (suc from) xs

picked-past : {X : Type 0} (w : X → ℕ) (v from : ℕ) (xs : List X) → v < from → picked w v from xs ≡ 0
picked-past w v from [] h = refl
picked-past w v from (x ∷ xs) h =
    let n : (from == v) ≡ false = grind (arith, nat_tests) in
    let a : cond (from == v) (w x) 0 ≡ 0 = ap (λ b. cond b (w x) 0) n in
    let b = picked-past w v (suc from) xs (omega (arith, h)) in
    omega (arith, a, b)

abbrev value_at : {X : Type 0} → (X → ℕ) → List X → ℕ → ℕ
value_at w [] k = 0
value_at w (x ∷ xs) zero = w x
value_at w (x ∷ xs) (suc k) = value_at w xs k

picked-at : {X : Type 0} (w : X → ℕ) (from k : ℕ) (xs : List X) → picked w (from + k) from xs ≡ value_at w xs k
picked-at w from k [] = refl
picked-at w from zero (x ∷ xs) =
    let n : (from == from + 0) ≡ true = grind (arith, nat_tests) in
    let a : cond (from == from + 0) (w x) 0 ≡ w x = ap (λ b. cond b (w x) 0) n in
    let b = picked-past w (from + 0) (suc from) xs (omega arith) in
    omega (arith, a, b)
picked-at w from (suc k) (x ∷ xs) =
    let n : (from == from + suc k) ≡ false = grind (arith, nat_tests) in
    let a : cond (from == from + suc k) (w x) 0 ≡ 0 = ap (λ b. cond b (w x) 0) n in
    let m : from + suc k ≡ suc from + k = omega arith in
    let b = ap (λ (v : ℕ). picked w v (suc from) xs) m ∙ picked-at w (suc from) k xs in
    omega (arith, a, b)

-- guests

vm-guest : (v u p : ℕ) (s : State) → in_vm v (guest_condition s u p) ≡ false
vm-guest v u p Owned = refl
vm-guest v u p SharedOwned = refl
vm-guest v u p SharedBorrowed = refl

shared-guest : (u p : ℕ) (s : State) → in_shared (guest_condition s u p) ≡ false
shared-guest u p Owned = refl
shared-guest u p SharedOwned = refl
shared-guest u p SharedBorrowed = refl

hand-guest : (c u p : ℕ) (s : State) → in_hand c (guest_condition s u p) ≡ false
hand-guest c u p Owned = refl
hand-guest c u p SharedOwned = refl
hand-guest c u p SharedBorrowed = refl

use-of : (u : ℕ) → table_use (2 + u) ≡ VmPoolUse u
use-of u = let n : 2 + u ≡ suc (suc u) = omega arith in ap table_use n

three : (a b c x y z s t : ℕ) → s ≡ a + t → t ≡ b + c → a ≡ x → b ≡ y → c ≡ z → s ≡ x + (y + z)
three a b c x y z s t p q i j k = omega (arith, p, q, i, j, k)

module _ (T : Condition → Bool) (f : ℕ) (no : (u p : ℕ) (s : State) → T (guest_condition s u p) ≡ false) where
  guest-sum : (u : ℕ) (x : GhostGuest) (a b : ℕ)
      → held_count (λ h. T (held_in h)) f (tables_held (2 + u) x.tree.tables.items) ≡ a
      → held_count (λ h. T (held_in h)) f (free_held (VmPool u) x.free.items) ≡ b
      → held_count (λ h. T (held_in h)) f (guest_held u x) ≡ a + (b + 0)
  guest-sum u x a b p q =
      three _ _ _ a b 0 _ _
      (count-append T f (tables_held (2 + u) x.tree.tables.items)
      (free_held (VmPool u) x.free.items ++ runs_held u x.tree.runs.items))
      (count-append T f (free_held (VmPool u) x.free.items) (runs_held u x.tree.runs.items)) p q
      (runs-none T f no u x.tree.runs.items)

  guest-empty : (u : ℕ) (x : GhostGuest)
      → T (hyps (VmPoolUse u)) ≡ false
      → held_count (λ h. T (held_in h)) f (guest_held u x) ≡ 0
  guest-empty u x t =
      guest-sum u x 0 0 (tables-none T f (2 + u) x.tree.tables.items (ap (λ k. T (hyps k)) (use-of u) ∙ t))
      (free-none T f (VmPool u) x.free.items (λ n. refl) t)

  pub guests-empty : (from : ℕ) (gs : List GhostGuest)
      → ((u : ℕ) → T (hyps (VmPoolUse u)) ≡ false)
      → held_count (λ h. T (held_in h)) f (guests_held from gs) ≡ 0
  guests-empty from [] t = refl
  guests-empty from (x ∷ gs) t =
      let all = count-append T f (guest_held from x) (guests_held (suc from) gs) in
      let a = guest-empty from x (t from) in
      let b = guests-empty (suc from) gs t in
      omega (arith, all, a, b)

module _ (depth f v : ℕ) where
  guest-own : (x : GhostGuest)
      → HasOwnBlocks depth x.tree.tables.items
      → held_count (λ h. in_vm v (held_in h)) f (guest_held v x) ≡ guest_uses depth (guest_in x) f
  guest-own x own =
      let t : in_vm v (hyps (VmPoolUse v)) ≡ true = eq-self v in
      let sum =
      guest-sum (in_vm v) f (vm-guest v) v x _ _
      (tables-count (in_vm v) f depth (2 + v) x.tree own (ap (λ k. in_vm v (hyps k)) (use-of v) ∙ t))
      (free-count (in_vm v) f (VmPool v) x.free.items (λ n. refl) t) in
      omega (arith, sum)

  guests-picked : (from : ℕ) (gs : List GhostGuest)
      → HaveOwnBlocks depth gs
      → held_count (λ h. in_vm v (held_in h)) f (guests_held from gs)
      ≡ picked (λ x. guest_uses depth (guest_in x) f) v from gs
  guests-picked from [] own = refl
  guests-picked from (x ∷ gs) own =
      let all = count-append (in_vm v) f (guest_held from x) (guests_held (suc from) gs) in
      let b = guests-picked (suc from) gs own.1 in
      let a : held_count (λ h. in_vm v (held_in h)) f (guest_held from x) ≡ cond (from == v) (guest_uses depth (guest_in x) f) 0 =
      by_eq from v
      (λ e. let t : (from == v) ≡ true = grind (arith, nat_tests) in
      ap (λ (n : ℕ). held_count (λ h. in_vm v (held_in h)) f (guest_held n x)) e ∙ guest-own x own.0
      ∙ sym (ap (λ b. cond b (guest_uses depth (guest_in x) f) 0) t))
      (λ e. let t : (from == v) ≡ false = eq-other from v e in
      guest-empty (in_vm v) f (vm-guest v) from x t ∙ sym (ap (λ b. cond b (guest_uses depth (guest_in x) f) 0) t)) in
      omega (arith, all, a, b)

  pub no-uses : guest_uses depth no_guest f ≡ 0
  unfolding table_uses
  no-uses = let none = count_blocks-none (depth + 1) (depth + 1) (λ b. is_frame f (no_tree.table b)) (λ b. refl) in
      omega (arith, none)

  value-guest : (gs : List GhostGuest) (k : ℕ)
      → value_at (λ x. guest_uses depth (guest_in x) f) gs k ≡ guest_uses depth (get_or (map guest_in gs) k no_guest) f
  value-guest [] k = sym no-uses
  value-guest (x ∷ gs) zero = refl
  value-guest (x ∷ gs) (suc k) = value-guest gs k

  pub guests-vm : (gs : List GhostGuest)
      → HaveOwnBlocks depth gs
      → held_count (λ h. in_vm v (held_in h)) f (guests_held 0 gs)
      ≡ guest_uses depth (get_or (map guest_in gs) v no_guest) f
  guests-vm gs own = let n : v ≡ 0 + v = omega arith in
      guests-picked 0 gs own ∙ ap (λ (u : ℕ). picked (λ x. guest_uses depth (guest_in x) f) u 0 gs) n
      ∙ picked-at (λ x. guest_uses depth (guest_in x) f) 0 v gs ∙ value-guest gs v

-- hands

and-one : (b c : Bool) → one (b && c) ≡ cond c (one b) 0
and-one true true = refl
and-one true false = refl
and-one false true = refl
and-one false false = refl

zero-more : (x : ℕ) → 0 + x ≡ x
zero-more x = omega arith

hand-one : (c d f : ℕ) (o : Option PageRange)
    → held_count (λ h. in_hand c (held_in h)) f (hand_held d o) ≡ cond (d == c) (one (is_in_hand o f)) 0
hand-one c d f None = none (d == c)
  where
    none : (b : Bool) → 0 ≡ cond b (one false) 0
    none true = refl
    none false = refl
hand-one c d f (Some r) = zero-more _ ∙ and-one (is_in_range r f) (d == c)

module _ (T : Condition → Bool) (f : ℕ) where
  hand-none : (d : ℕ) (o : Option PageRange)
      → T (held_in (Hand d)) ≡ false
      → held_count (λ h. T (held_in h)) f (hand_held d o) ≡ 0
  hand-none d None t = refl
  hand-none d (Some r) t = zero-more _ ∙ ap (λ b. one (is_in_range r f && b)) t ∙ and-one (is_in_range r f) false

  pub hands-none : (from : ℕ) (ks : List GhostCpu)
      → ((d : ℕ) → T (held_in (Hand d)) ≡ false)
      → held_count (λ h. T (held_in h)) f (hands_held from ks) ≡ 0
  hands-none from [] t = refl
  hands-none from (k ∷ ks) t =
      let all = count-append T f (hand_held from k.hand) (hands_held (suc from) ks) in
      let a = hand-none from k.hand (t from) in
      let b = hands-none (suc from) ks t in
      omega (arith, all, a, b)

module _ (f c : ℕ) where
  hands-picked : (from : ℕ) (ks : List GhostCpu)
      → held_count (λ h. in_hand c (held_in h)) f (hands_held from ks)
      ≡ picked (λ k. one (is_in_hand k.hand f)) c from ks
  hands-picked from [] = refl
  hands-picked from (k ∷ ks) =
      let all = count-append (in_hand c) f (hand_held from k.hand) (hands_held (suc from) ks) in
      let a = hand-one c from f k.hand in
      let b = hands-picked (suc from) ks in
      omega (arith, all, a, b)

  value-hand : (ks : List GhostCpu) (d : ℕ)
      → value_at (λ k. one (is_in_hand k.hand f)) ks d ≡ one (is_in_hand (get_or (map cpu_in ks) d no_cpu).hand f)
  value-hand [] d = refl
  value-hand (k ∷ ks) zero = refl
  value-hand (k ∷ ks) (suc d) = value-hand ks d

  pub hands-hand : (ks : List GhostCpu)
      → held_count (λ h. in_hand c (held_in h)) f (hands_held 0 ks)
      ≡ one (is_in_hand (get_or (map cpu_in ks) c no_cpu).hand f)
  hands-hand ks = let n : c ≡ 0 + c = omega arith in
      hands-picked 0 ks ∙ ap (λ (u : ℕ). picked (λ k. one (is_in_hand k.hand f)) u 0 ks) n
      ∙ picked-at (λ k. one (is_in_hand k.hand f)) 0 c ks ∙ value-hand ks c

-- all

module _ (g : GhostLists) (own : TreesHaveOwnBlocks (layout_of g.layout).depth g) (f : ℕ) where
  abbrev d : ℕ
  d = (layout_of g.layout).depth

  all-sum : (T : Condition → Bool) (x y z : ℕ)
      → held_count (λ h. T (held_in h)) f (shared_held g.shared) ≡ x
      → held_count (λ h. T (held_in h)) f (guests_held 0 g.guests.items) ≡ y
      → held_count (λ h. T (held_in h)) f (hands_held 0 g.cpus.items) ≡ z
      → held_count (λ h. T (held_in h)) f (all_held_in g) ≡ x + (y + z)
  all-sum T x y z p q r =
      three _ _ _ x y z _ _
      (count-append T f (shared_held g.shared) (guests_held 0 g.guests.items ++ hands_held 0 g.cpus.items))
      (count-append T f (guests_held 0 g.guests.items) (hands_held 0 g.cpus.items)) p q r

  shared-sum : (T : Condition → Bool) (x y z : ℕ)
      → held_count (λ h. T (held_in h)) f (tables_held 0 g.shared.host.tables.items) ≡ x
      → held_count (λ h. T (held_in h)) f (tables_held 1 g.shared.hyp.tables.items) ≡ y
      → held_count (λ h. T (held_in h)) f (free_held SharedPool g.shared.free.items) ≡ z
      → held_count (λ h. T (held_in h)) f (shared_held g.shared) ≡ x + (y + z)
  shared-sum T x y z p q r =
      three _ _ _ x y z _ _
      (count-append T f (tables_held 0 g.shared.host.tables.items)
      (tables_held 1 g.shared.hyp.tables.items ++ free_held SharedPool g.shared.free.items))
      (count-append T f (tables_held 1 g.shared.hyp.tables.items) (free_held SharedPool g.shared.free.items)) p
      q r

  shared-none : (T : Condition → Bool)
      → T (held_in SharedPool) ≡ false
      → held_count (λ h. T (held_in h)) f (shared_held g.shared) ≡ 0
  shared-none T t =
      shared-sum T 0 0 0 (tables-none T f 0 g.shared.host.tables.items t)
      (tables-none T f 1 g.shared.hyp.tables.items t) (free-none T f SharedPool g.shared.free.items (λ n. refl) t)

  pub all-shared : shared_uses d (contents_in g).shared f ≡ held_count (λ h. in_shared (held_in h)) f (all_held_in g)
  all-shared =
      let s =
      shared-sum in_shared _ _ _ (tables-count in_shared f d 0 g.shared.host own.host refl)
      (tables-count in_shared f d 1 g.shared.hyp own.hyp refl)
      (free-count in_shared f SharedPool g.shared.free.items (λ n. refl) refl) in
      let a =
      all-sum in_shared _ 0 0 s (guests-empty in_shared f shared-guest 0 g.guests.items (λ u. refl))
      (hands-none in_shared f 0 g.cpus.items (λ u. refl)) in
      omega (arith, a)

  pub all-vm : (v : ℕ)
      → guest_uses d ((contents_in g).guest v) f ≡ held_count (λ h. in_vm v (held_in h)) f (all_held_in g)
  all-vm v =
      let a =
      all-sum (in_vm v) 0 _ 0 (shared-none (in_vm v) refl) (guests-vm d f v g.guests.items own.guests)
      (hands-none (in_vm v) f 0 g.cpus.items (λ u. refl)) in
      omega (arith, a)

  pub all-hand : (c : ℕ)
      → one (is_in_hand ((contents_in g).cpu c).hand f) ≡ held_count (λ h. in_hand c (held_in h)) f (all_held_in g)
  all-hand c =
      let a =
      all-sum (in_hand c) 0 0 _ (shared-none (in_hand c) refl)
      (guests-empty (in_hand c) f (hand-guest c) 0 g.guests.items (λ u. refl)) (hands-hand f c g.cpus.items) in
      omega (arith, a)
