-- Pages and roots make trees, or have one fault.
use Rattle.std.proofs.Common.{◌≡◌, ℕ, suc, true, false, List, ◌∷◌, ◌++◌, Some, length, take, slice_get, get_or, inl, inr, refl, sym, ap, subst, ◌∙◌, ◌+◌, ◌<◌, arith}
use Rattle.std.specs.Prelude.{All, AllPairs}
use Rattle.std.proofs.lemmas.List.{get_or-take, get_or_default, get_or_append_left, length-append, length-take-le}
use Rattle.std.proofs.lemmas.Option.{get_or_from_slice_get, slice_get_past, slice_get_within}
use Rattle.std.proofs.Math.Seq.{get_or-append_seam}
use Rattle.page_state.proofs.Cases.{by_lt}
use Rattle.page_state.proofs.Common.{same2}
use Rattle.walked_tables.specs.declared.reached.Reached.{Reached}
use Rattle.walked_tables.specs.ByFrames.{IsWhole}
use Rattle.walked_tables.specs.Reached.{AreOtherFrames, IsAgain}
use Rattle.c_trees.specs.declared.root.PlainRoot.{PlainRoot}
use Rattle.c_trees.specs.declared.root.RootFault.{RootFault}
use Rattle.c_trees.specs.declared.root.RootFault.TheVariants.{Profile, Levels, Pages, Skips}
use Rattle.c_trees.specs.declared.trees.TreeFault.TheVariants.{Short, PageTwice, NoTree, RootTwice, BadRoot, NoPage, Again, NoMemory}
use Rattle.c_trees.specs.Given.{again_with, all_tables, is_again, AreNumberedApart, IsBadRoot, IsKnown, IsOther, IsRepeated}
use Rattle.c_trees.specs.Laws.{TreeFaultOnce, TreesElse}
use Rattle.c_trees.specs.Roots.{HasPages, IsGoodRoot, IsRootFault}

-- members that aren't as they have to be

other_else : {X : Type 0} (P : X → Type 0) (xs : List X) (i : ℕ) → All P xs → IsOther P xs i → ⊥
other_else P xs i all o =
    o.not
    (subst P (get_or_from_slice_get xs i o.member o.member o.is)
    (all i o.member (slice_get_within xs i o.member o.is)))

other_before : {X : Type 0} (P : X → Type 0) (xs : List X) (i j : ℕ) → i < j → IsOther P xs i → IsOther P xs j → ⊥
other_before P xs i j l a b =
    let within = slice_get_within xs j b.member b.is in
    let here : i < length (take j xs) = rw (length-take-le j xs (omega (arith, within))) l in
    a.not
    (subst P (get_or-take j xs i a.member l ∙ get_or_from_slice_get xs i a.member a.member a.is)
    (b.before i a.member here))

other_once : {X : Type 0} (P : X → Type 0) (xs : List X) (i j : ℕ) → IsOther P xs i → IsOther P xs j → i ≡ j
other_once P xs i j a b =
    by_lt i j (λ l. absurd (other_before P xs i j l a b))
    (λ l. by_lt j i (λ k. absurd (other_before P xs j i k b a)) (λ k. omega (arith, l, k)))

-- members that have the number of an earlier one

repeated_within : {X : Type 0} (number : X → ℕ) (xs : List X) (i : ℕ) → is_again number xs i ≡ true → i < length xs
repeated_within number xs i e = by_lt i (length xs) (λ l. l) (λ l.
    let none : is_again number xs i ≡ false = ap (again_with number (take i xs)) (slice_get_past xs i l) in
    let bad : true ≡ false = sym e ∙ none in absurd (cc))

repeated_else : {X : Type 0} (number : X → ℕ) (xs : List X) (i : ℕ)
    → AreNumberedApart number xs
    → IsRepeated number xs i
    → ⊥
repeated_else number xs i apart r = let bad : true ≡ false =
    sym r.again ∙ apart i (repeated_within number xs i r.again) in
    cc

repeated_before : {X : Type 0} (number : X → ℕ) (xs : List X) (i j : ℕ)
    → i < j
    → IsRepeated number xs i
    → IsRepeated number xs j
    → ⊥
repeated_before number xs i j l a b = let bad : true ≡ false = sym a.again ∙ b.before i l in cc

repeated_once : {X : Type 0} (number : X → ℕ) (xs : List X) (i j : ℕ)
    → IsRepeated number xs i
    → IsRepeated number xs j
    → i ≡ j
repeated_once number xs i j a b =
    by_lt i j (λ l. absurd (repeated_before number xs i j l a b))
    (λ l. by_lt j i (λ k. absurd (repeated_before number xs j i k b a)) (λ k. omega (arith, l, k)))

-- tables that are reached again

two_apart : (xs : List Reached) (i j : ℕ) (r s : Reached)
    → AllPairs AreOtherFrames xs
    → i < j
    → j < length xs
    → get_or xs i r ≡ r
    → get_or xs j r ≡ s
    → r.frame ≡ s.frame
    → ⊥
two_apart xs i j r s apart l k at to same =
    apart i j r l k (ap (λ (x : Reached). x.frame) at ∙ same ∙ sym (ap (λ (x : Reached). x.frame) to))

again_else : (all : List Reached) (first second : Reached) → AllPairs AreOtherFrames all → IsAgain all first second → ⊥
again_else all first second apart a =
    let inside = a.earlier.1 in
    let long : length (a.front ++ second ∷ a.back) ≡ length a.front + suc (length a.back) =
    length-append a.front (second ∷ a.back) in
    two_apart (a.front ++ second ∷ a.back) a.earlier.0 (length a.front) first second
    (subst (AllPairs AreOtherFrames) a.in_order apart) inside (omega (arith, long))
    (get_or_append_left a.front (second ∷ a.back) first a.earlier.0 inside ∙ a.earlier.2)
    (get_or-append_seam a.front second a.back first) a.frame

-- roots that can't be

fault_else : (root : PlainRoot) (f : RootFault) → IsRootFault root f → IsGoodRoot root → ⊥
fault_else root Profile h good = h good.profile
fault_else root Levels h good = h.1 good.levels
fault_else root Pages h good = h.2 good.pages
fault_else root Skips h good = h.3 good.skips

fault_same : (root : PlainRoot) (f g : RootFault) → IsRootFault root f → IsRootFault root g → f ≡ g
fault_same root Profile Profile h k = refl
fault_same root Profile Levels h k = absurd (h k.0)
fault_same root Profile Pages h k = absurd (h k.0)
fault_same root Profile Skips h k = absurd (h k.0)
fault_same root Levels Profile h k = absurd (k h.0)
fault_same root Levels Levels h k = refl
fault_same root Levels Pages h k = absurd (h.1 k.1)
fault_same root Levels Skips h k = absurd (h.1 k.1)
fault_same root Pages Profile h k = absurd (k h.0)
fault_same root Pages Levels h k = absurd (k.1 h.1)
fault_same root Pages Pages h k = refl
fault_same root Pages Skips h k = absurd (h.2 k.2)
fault_same root Skips Profile h k = absurd (k h.0)
fault_same root Skips Levels h k = absurd (k.1 h.1)
fault_same root Skips Pages h k = absurd (k.2 h.2)
fault_same root Skips Skips h k = refl

as_other : (roots : List PlainRoot) (i : ℕ) (f : RootFault) → IsBadRoot roots i f → IsOther IsGoodRoot roots i
as_other roots i f b = record { member = b.root; is = b.is; not = fault_else b.root f b.told; before = b.before }

bad_else : (roots : List PlainRoot) (i : ℕ) (f : RootFault) → All IsGoodRoot roots → IsBadRoot roots i f → ⊥
bad_else roots i f all b = other_else IsGoodRoot roots i all (as_other roots i f b)

some-same : (r s : PlainRoot) → Some r ≡ Some s → r ≡ s
some-same r s e = cc

bad_once : (roots : List PlainRoot) (i : ℕ) (f : RootFault) (j : ℕ) (g : RootFault)
    → IsBadRoot roots i f
    → IsBadRoot roots j g
    → BadRoot i f ≡ BadRoot j g
bad_once roots i f j g a b =
    let at : i ≡ j = other_once IsGoodRoot roots i j (as_other roots i f a) (as_other roots j g b) in
    let root : b.root ≡ a.root = some-same b.root a.root (sym b.is ∙ ap (slice_get roots) (sym at) ∙ a.is) in
    same2 BadRoot at (fault_same a.root f g a.told (subst (λ r. IsRootFault r g) root b.told))

pub trees_else : TreesElse
trees_else g pages roots kept trees (Short i) a h =
    absurd (other_else IsWhole pages i a.given.pages_are.whole h)
trees_else g pages roots kept trees (PageTwice i) a h =
    absurd (repeated_else (λ p. p.frame) pages i a.given.pages_are.frames h.1)
trees_else g pages roots kept trees (NoTree i) a h =
    absurd (other_else IsKnown roots i a.given.roots_are.known h.1)
trees_else g pages roots kept trees (RootTwice i) a h =
    absurd (repeated_else (λ r. r.tree) roots i a.given.roots_are.trees h.2)
trees_else g pages roots kept trees (BadRoot i f) a h =
    absurd (bad_else roots i f a.given.good h.2)
trees_else g pages roots kept trees (NoPage i) a h =
    absurd (other_else (HasPages pages) roots i a.given.root_pages h.3)
trees_else g pages roots kept trees (Again first second) a h =
    absurd (again_else (all_tables g pages roots) first second a.once h.1)
trees_else g pages roots kept trees NoMemory a h = refl

-- the first that is reached again is one table, with one before it
again_before : (all : List Reached) (a b c d : Reached) (x : IsAgain all a b) (y : IsAgain all c d)
    → length x.front < length y.front
    → ⊥
again_before all a b c d x y l =
    let inside = x.earlier.1 in
    let left : get_or all x.earlier.0 a ≡ a =
    ap (λ us. get_or us x.earlier.0 a) x.in_order ∙ get_or_append_left x.front (b ∷ x.back) a x.earlier.0 inside
    ∙ x.earlier.2 in
    let right : get_or all (length x.front) a ≡ b =
    ap (λ us. get_or us (length x.front) a) x.in_order ∙ get_or-append_seam x.front b x.back a in
    two_apart y.front x.earlier.0 (length x.front) a b y.apart inside l
    (sym
    (ap (λ us. get_or us x.earlier.0 a) y.in_order
    ∙ get_or_append_left y.front (d ∷ y.back) a x.earlier.0 (omega (arith, inside, l)))
    ∙ left)
    (sym
    (ap (λ us. get_or us (length x.front) a) y.in_order
    ∙ get_or_append_left y.front (d ∷ y.back) a (length x.front) l)
    ∙ right) x.frame

again_same : (all : List Reached) (a b c d : Reached) (x : IsAgain all a b) (y : IsAgain all c d)
    → length x.front ≡ length y.front
    → Again a b ≡ Again c d
again_same all a b c d x y e =
    let ins = x.earlier.1 in
    let out = y.earlier.1 in
    let seam_x : get_or all (length x.front) b ≡ b =
    ap (λ us. get_or us (length x.front) b) x.in_order ∙ get_or-append_seam x.front b x.back b in
    let seam_y : get_or all (length x.front) b ≡ d =
    ap (λ n. get_or all n b) e ∙ ap (λ us. get_or us (length y.front) b) y.in_order
    ∙ get_or-append_seam y.front d y.back b in
    let second : b ≡ d = sym seam_x ∙ seam_y in
    let frames : a.frame ≡ c.frame = x.frame ∙ ap (λ (r : Reached). r.frame) second ∙ sym y.frame in
    let at_y : (r : Reached) (k : ℕ) → k < length y.front → get_or all k r ≡ get_or y.front k r =
    λ r k l. ap (λ us. get_or us k r) y.in_order ∙ get_or_append_left y.front (d ∷ y.back) r k l in
    let at_a : get_or y.front x.earlier.0 a ≡ a =
    sym (at_y a x.earlier.0 (omega (arith, ins, e)))
    ∙ (ap (λ us. get_or us x.earlier.0 a) x.in_order
    ∙ get_or_append_left x.front (b ∷ x.back) a x.earlier.0 ins ∙ x.earlier.2) in
    let first : a ≡ c = by_lt x.earlier.0 y.earlier.0
    (λ l. absurd
    (two_apart y.front x.earlier.0 y.earlier.0 a c y.apart l out at_a
    (get_or_default y.front y.earlier.0 a c out ∙ y.earlier.2) frames))
    (λ l. by_lt y.earlier.0 x.earlier.0
    (λ k. absurd
    (two_apart y.front y.earlier.0 x.earlier.0 c a y.apart k (omega (arith, ins, e)) y.earlier.2
    (get_or_default y.front x.earlier.0 c a (omega (arith, ins, e)) ∙ at_a) (sym frames)))
    (λ k. let same : x.earlier.0 ≡ y.earlier.0 = omega (arith, l, k) in
    sym at_a ∙ ap (λ n. get_or y.front n a) same ∙ get_or_default y.front y.earlier.0 a c out ∙ y.earlier.2)) in
    same2 Again first second

again_once : (all : List Reached) (a b c d : Reached) → IsAgain all a b → IsAgain all c d → Again a b ≡ Again c d
again_once all a b c d x y =
    by_lt (length x.front) (length y.front) (λ l. absurd (again_before all a b c d x y l))
    (λ l. by_lt (length y.front) (length x.front)
    (λ k. absurd (again_before all c d a b y x k))
    (λ k. again_same all a b c d x y (omega (arith, l, k))))

pub fault_once : TreeFaultOnce
fault_once t pages roots (Short i) (Short j) h k =
    inr (inr (ap Short (other_once IsWhole pages i j h k)))
fault_once t pages roots (Short i) (PageTwice j) h k =
    absurd (other_else IsWhole pages i k.0 h)
fault_once t pages roots (Short i) (NoTree j) h k =
    absurd (other_else IsWhole pages i k.0.whole h)
fault_once t pages roots (Short i) (RootTwice j) h k =
    absurd (other_else IsWhole pages i k.0.whole h)
fault_once t pages roots (Short i) (BadRoot j g) h k =
    absurd (other_else IsWhole pages i k.0.whole h)
fault_once t pages roots (Short i) (NoPage j) h k =
    absurd (other_else IsWhole pages i k.0.whole h)
fault_once t pages roots (Short i) (Again c d) h k =
    absurd (other_else IsWhole pages i k.0.pages_are.whole h)
fault_once t pages roots (Short i) NoMemory h k = inr (inl refl)
fault_once t pages roots (PageTwice i) (Short j) h k =
    absurd (other_else IsWhole pages j h.0 k)
fault_once t pages roots (PageTwice i) (PageTwice j) h k =
    inr (inr (ap PageTwice (repeated_once (λ p. p.frame) pages i j h.1 k.1)))
fault_once t pages roots (PageTwice i) (NoTree j) h k =
    absurd (repeated_else (λ p. p.frame) pages i k.0.frames h.1)
fault_once t pages roots (PageTwice i) (RootTwice j) h k =
    absurd (repeated_else (λ p. p.frame) pages i k.0.frames h.1)
fault_once t pages roots (PageTwice i) (BadRoot j g) h k =
    absurd (repeated_else (λ p. p.frame) pages i k.0.frames h.1)
fault_once t pages roots (PageTwice i) (NoPage j) h k =
    absurd (repeated_else (λ p. p.frame) pages i k.0.frames h.1)
fault_once t pages roots (PageTwice i) (Again c d) h k =
    absurd (repeated_else (λ p. p.frame) pages i k.0.pages_are.frames h.1)
fault_once t pages roots (PageTwice i) NoMemory h k = inr (inl refl)
fault_once t pages roots (NoTree i) (Short j) h k =
    absurd (other_else IsWhole pages j h.0.whole k)
fault_once t pages roots (NoTree i) (PageTwice j) h k =
    absurd (repeated_else (λ p. p.frame) pages j h.0.frames k.1)
fault_once t pages roots (NoTree i) (NoTree j) h k =
    inr (inr (ap NoTree (other_once IsKnown roots i j h.1 k.1)))
fault_once t pages roots (NoTree i) (RootTwice j) h k =
    absurd (other_else IsKnown roots i k.1 h.1)
fault_once t pages roots (NoTree i) (BadRoot j g) h k =
    absurd (other_else IsKnown roots i k.1.known h.1)
fault_once t pages roots (NoTree i) (NoPage j) h k =
    absurd (other_else IsKnown roots i k.1.known h.1)
fault_once t pages roots (NoTree i) (Again c d) h k =
    absurd (other_else IsKnown roots i k.0.roots_are.known h.1)
fault_once t pages roots (NoTree i) NoMemory h k = inr (inl refl)
fault_once t pages roots (RootTwice i) (Short j) h k =
    absurd (other_else IsWhole pages j h.0.whole k)
fault_once t pages roots (RootTwice i) (PageTwice j) h k =
    absurd (repeated_else (λ p. p.frame) pages j h.0.frames k.1)
fault_once t pages roots (RootTwice i) (NoTree j) h k =
    absurd (other_else IsKnown roots j h.1 k.1)
fault_once t pages roots (RootTwice i) (RootTwice j) h k =
    inr (inr (ap RootTwice (repeated_once (λ r. r.tree) roots i j h.2 k.2)))
fault_once t pages roots (RootTwice i) (BadRoot j g) h k =
    absurd (repeated_else (λ r. r.tree) roots i k.1.trees h.2)
fault_once t pages roots (RootTwice i) (NoPage j) h k =
    absurd (repeated_else (λ r. r.tree) roots i k.1.trees h.2)
fault_once t pages roots (RootTwice i) (Again c d) h k =
    absurd (repeated_else (λ r. r.tree) roots i k.0.roots_are.trees h.2)
fault_once t pages roots (RootTwice i) NoMemory h k = inr (inl refl)
fault_once t pages roots (BadRoot i f) (Short j) h k =
    absurd (other_else IsWhole pages j h.0.whole k)
fault_once t pages roots (BadRoot i f) (PageTwice j) h k =
    absurd (repeated_else (λ p. p.frame) pages j h.0.frames k.1)
fault_once t pages roots (BadRoot i f) (NoTree j) h k =
    absurd (other_else IsKnown roots j h.1.known k.1)
fault_once t pages roots (BadRoot i f) (RootTwice j) h k =
    absurd (repeated_else (λ r. r.tree) roots j h.1.trees k.2)
fault_once t pages roots (BadRoot i f) (BadRoot j g) h k =
    inr (inr (bad_once roots i f j g h.2 k.2))
fault_once t pages roots (BadRoot i f) (NoPage j) h k =
    absurd (bad_else roots i f k.2 h.2)
fault_once t pages roots (BadRoot i f) (Again c d) h k =
    absurd (bad_else roots i f k.0.good h.2)
fault_once t pages roots (BadRoot i f) NoMemory h k = inr (inl refl)
fault_once t pages roots (NoPage i) (Short j) h k =
    absurd (other_else IsWhole pages j h.0.whole k)
fault_once t pages roots (NoPage i) (PageTwice j) h k =
    absurd (repeated_else (λ p. p.frame) pages j h.0.frames k.1)
fault_once t pages roots (NoPage i) (NoTree j) h k =
    absurd (other_else IsKnown roots j h.1.known k.1)
fault_once t pages roots (NoPage i) (RootTwice j) h k =
    absurd (repeated_else (λ r. r.tree) roots j h.1.trees k.2)
fault_once t pages roots (NoPage i) (BadRoot j g) h k =
    absurd (bad_else roots j g h.2 k.2)
fault_once t pages roots (NoPage i) (NoPage j) h k =
    inr (inr (ap NoPage (other_once (HasPages pages) roots i j h.3 k.3)))
fault_once t pages roots (NoPage i) (Again c d) h k =
    absurd (other_else (HasPages pages) roots i k.0.root_pages h.3)
fault_once t pages roots (NoPage i) NoMemory h k = inr (inl refl)
fault_once t pages roots (Again a b) (Short j) h k =
    absurd (other_else IsWhole pages j h.0.pages_are.whole k)
fault_once t pages roots (Again a b) (PageTwice j) h k =
    absurd (repeated_else (λ p. p.frame) pages j h.0.pages_are.frames k.1)
fault_once t pages roots (Again a b) (NoTree j) h k =
    absurd (other_else IsKnown roots j h.0.roots_are.known k.1)
fault_once t pages roots (Again a b) (RootTwice j) h k =
    absurd (repeated_else (λ r. r.tree) roots j h.0.roots_are.trees k.2)
fault_once t pages roots (Again a b) (BadRoot j g) h k =
    absurd (bad_else roots j g h.0.good k.2)
fault_once t pages roots (Again a b) (NoPage j) h k =
    absurd (other_else (HasPages pages) roots j h.0.root_pages k.3)
fault_once t pages roots (Again a b) (Again c d) h k =
    inr (inr (again_once (all_tables t pages roots) a b c d h.1 k.1))
fault_once t pages roots (Again a b) NoMemory h k = inr (inl refl)
fault_once t pages roots NoMemory h p k = inl refl
