-- Pages and roots make trees, or have one fault.
use Rattle.std.proofs.Common.{◌≡◌, ℕ, suc, true, false, List, ◌∷◌, ◌++◌, length, take, get_or, inl, inr, refl, sym, ap, subst, ◌∙◌, ◌+◌, ◌<◌, arith}
use Rattle.std.specs.Prelude.{All, AllPairs}
use Rattle.std.proofs.lemmas.List.{get_or-take, get_or_default, get_or_append_left, length-append, length-take-le}
use Rattle.std.proofs.lemmas.Option.{get_or_from_slice_get, slice_get_past, slice_get_within}
use Rattle.std.proofs.Math.Seq.{get_or-append_seam}
use Rattle.page_state.proofs.Cases.{by_lt}
use Rattle.page_state.proofs.Common.{same2}
use Rattle.c_tables.specs.declared.reached.Reached.{Reached}
use Rattle.c_tables.specs.declared.trees.TreeFault.TheVariants.{Short, PageTwice, NoTree, RootTwice, NoPage, Again, NoMemory}
use Rattle.c_tables.specs.ByFrames.{IsWhole}
use Rattle.c_tables.specs.Given.{again_with, all_tables, is_again, AreNumberedApart, HasPage, IsKnown, IsOther, IsRepeated}
use Rattle.c_tables.specs.Laws.{TreeFaultOnce, TreesElse}
use Rattle.c_tables.specs.Reached.{AreOtherFrames, IsAgain}

-- members that aren't as they have to be

other_else : {X : Type 0} (P : X → Type 0) (xs : List X) (i : ℕ) → All P xs → IsOther P xs i → ⊥
other_else P xs i all o =
    o.not
    (subst P (get_or_from_slice_get xs i o.member o.member o.is)
    (all i o.member (slice_get_within xs i o.member o.is)))

other_before : {X : Type 0} (P : X → Type 0) (xs : List X) (i j : ℕ) → i < j → IsOther P xs i → IsOther P xs j → ⊥
other_before P xs i j l a b =
    let within = slice_get_within xs j b.member b.is in
    let here : i < length (take j xs) = rw (length-take-le j xs (omega (arith, within))) l in
    a.not
    (subst P (get_or-take j xs i a.member l ∙ get_or_from_slice_get xs i a.member a.member a.is)
    (b.before i a.member here))

other_once : {X : Type 0} (P : X → Type 0) (xs : List X) (i j : ℕ) → IsOther P xs i → IsOther P xs j → i ≡ j
other_once P xs i j a b =
    by_lt i j (λ l. absurd (other_before P xs i j l a b))
    (λ l. by_lt j i (λ k. absurd (other_before P xs j i k b a)) (λ k. omega (arith, l, k)))

-- members that have the number of an earlier one

repeated_within : {X : Type 0} (number : X → ℕ) (xs : List X) (i : ℕ) → is_again number xs i ≡ true → i < length xs
repeated_within number xs i e = by_lt i (length xs) (λ l. l) (λ l.
    let none : is_again number xs i ≡ false = ap (again_with number (take i xs)) (slice_get_past xs i l) in
    let bad : true ≡ false = sym e ∙ none in absurd (cc))

repeated_else : {X : Type 0} (number : X → ℕ) (xs : List X) (i : ℕ)
    → AreNumberedApart number xs
    → IsRepeated number xs i
    → ⊥
repeated_else number xs i apart r = let bad : true ≡ false =
    sym r.again ∙ apart i (repeated_within number xs i r.again) in
    cc

repeated_before : {X : Type 0} (number : X → ℕ) (xs : List X) (i j : ℕ)
    → i < j
    → IsRepeated number xs i
    → IsRepeated number xs j
    → ⊥
repeated_before number xs i j l a b = let bad : true ≡ false = sym a.again ∙ b.before i l in cc

repeated_once : {X : Type 0} (number : X → ℕ) (xs : List X) (i j : ℕ)
    → IsRepeated number xs i
    → IsRepeated number xs j
    → i ≡ j
repeated_once number xs i j a b =
    by_lt i j (λ l. absurd (repeated_before number xs i j l a b))
    (λ l. by_lt j i (λ k. absurd (repeated_before number xs j i k b a)) (λ k. omega (arith, l, k)))

-- tables that are reached again

two_apart : (xs : List Reached) (i j : ℕ) (r s : Reached)
    → AllPairs AreOtherFrames xs
    → i < j
    → j < length xs
    → get_or xs i r ≡ r
    → get_or xs j r ≡ s
    → r.table.frame ≡ s.table.frame
    → ⊥
two_apart xs i j r s apart l k at to same =
    apart i j r l k (ap (λ (x : Reached). x.table.frame) at ∙ same ∙ sym (ap (λ (x : Reached). x.table.frame) to))

again_else : (all : List Reached) (first second : Reached) → AllPairs AreOtherFrames all → IsAgain all first second → ⊥
again_else all first second apart a =
    let inside = a.earlier.1 in
    let long : length (a.front ++ second ∷ a.back) ≡ length a.front + suc (length a.back) =
    length-append a.front (second ∷ a.back) in
    two_apart (a.front ++ second ∷ a.back) a.earlier.0 (length a.front) first second
    (subst (AllPairs AreOtherFrames) a.in_order apart) inside (omega (arith, long))
    (get_or_append_left a.front (second ∷ a.back) first a.earlier.0 inside ∙ a.earlier.2)
    (get_or-append_seam a.front second a.back first) a.frame

pub trees_else : TreesElse
trees_else g pages roots trees (Short i) a h = absurd (other_else IsWhole pages i a.given.whole h)
trees_else g pages roots trees (PageTwice i) a h = absurd (repeated_else (λ p. p.frame) pages i a.given.frames h.1)
trees_else g pages roots trees (NoTree i) a h = absurd (other_else IsKnown roots i a.given.known h.2)
trees_else g pages roots trees (RootTwice i) a h = absurd (repeated_else (λ r. r.tree) roots i a.given.trees h.3)
trees_else g pages roots trees (NoPage i) a h = absurd (other_else (HasPage pages) roots i a.given.root_pages h.4)
trees_else g pages roots trees (Again first second) a h =
    absurd (again_else (all_tables g pages roots) first second a.once h.1)
trees_else g pages roots trees NoMemory a h = refl

-- the first that is reached again is one table, with one before it
again_before : (all : List Reached) (a b c d : Reached) (x : IsAgain all a b) (y : IsAgain all c d)
    → length x.front < length y.front
    → ⊥
again_before all a b c d x y l =
    let inside = x.earlier.1 in
    let left : get_or all x.earlier.0 a ≡ a =
    ap (λ us. get_or us x.earlier.0 a) x.in_order ∙ get_or_append_left x.front (b ∷ x.back) a x.earlier.0 inside
    ∙ x.earlier.2 in
    let right : get_or all (length x.front) a ≡ b =
    ap (λ us. get_or us (length x.front) a) x.in_order ∙ get_or-append_seam x.front b x.back a in
    two_apart y.front x.earlier.0 (length x.front) a b y.apart inside l
    (sym
    (ap (λ us. get_or us x.earlier.0 a) y.in_order
    ∙ get_or_append_left y.front (d ∷ y.back) a x.earlier.0 (omega (arith, inside, l)))
    ∙ left)
    (sym
    (ap (λ us. get_or us (length x.front) a) y.in_order
    ∙ get_or_append_left y.front (d ∷ y.back) a (length x.front) l)
    ∙ right) x.frame

again_same : (all : List Reached) (a b c d : Reached) (x : IsAgain all a b) (y : IsAgain all c d)
    → length x.front ≡ length y.front
    → Again a b ≡ Again c d
again_same all a b c d x y e =
    let ins = x.earlier.1 in
    let out = y.earlier.1 in
    let seam_x : get_or all (length x.front) b ≡ b =
    ap (λ us. get_or us (length x.front) b) x.in_order ∙ get_or-append_seam x.front b x.back b in
    let seam_y : get_or all (length x.front) b ≡ d =
    ap (λ n. get_or all n b) e ∙ ap (λ us. get_or us (length y.front) b) y.in_order
    ∙ get_or-append_seam y.front d y.back b in
    let second : b ≡ d = sym seam_x ∙ seam_y in
    let frames : a.table.frame ≡ c.table.frame = x.frame ∙ ap (λ (r : Reached). r.table.frame) second ∙ sym y.frame in
    let at_y : (r : Reached) (k : ℕ) → k < length y.front → get_or all k r ≡ get_or y.front k r =
    λ r k l. ap (λ us. get_or us k r) y.in_order ∙ get_or_append_left y.front (d ∷ y.back) r k l in
    let at_a : get_or y.front x.earlier.0 a ≡ a =
    sym (at_y a x.earlier.0 (omega (arith, ins, e)))
    ∙ (ap (λ us. get_or us x.earlier.0 a) x.in_order
    ∙ get_or_append_left x.front (b ∷ x.back) a x.earlier.0 ins ∙ x.earlier.2) in
    let first : a ≡ c = by_lt x.earlier.0 y.earlier.0
    (λ l. absurd
    (two_apart y.front x.earlier.0 y.earlier.0 a c y.apart l out at_a
    (get_or_default y.front y.earlier.0 a c out ∙ y.earlier.2) frames))
    (λ l. by_lt y.earlier.0 x.earlier.0
    (λ k. absurd
    (two_apart y.front y.earlier.0 x.earlier.0 c a y.apart k (omega (arith, ins, e)) y.earlier.2
    (get_or_default y.front x.earlier.0 c a (omega (arith, ins, e)) ∙ at_a) (sym frames)))
    (λ k. let same : x.earlier.0 ≡ y.earlier.0 = omega (arith, l, k) in
    sym at_a ∙ ap (λ n. get_or y.front n a) same ∙ get_or_default y.front y.earlier.0 a c out ∙ y.earlier.2)) in
    same2 Again first second

again_once : (all : List Reached) (a b c d : Reached) → IsAgain all a b → IsAgain all c d → Again a b ≡ Again c d
again_once all a b c d x y =
    by_lt (length x.front) (length y.front) (λ l. absurd (again_before all a b c d x y l))
    (λ l. by_lt (length y.front) (length x.front)
    (λ k. absurd (again_before all c d a b y x k))
    (λ k. again_same all a b c d x y (omega (arith, l, k))))

pub fault_once : TreeFaultOnce
fault_once g pages roots (Short i) (Short j) h k = inr (inr (ap Short (other_once IsWhole pages i j h k)))
fault_once g pages roots (Short i) (PageTwice j) h k = absurd (other_else IsWhole pages i k.0 h)
fault_once g pages roots (Short i) (NoTree j) h k = absurd (other_else IsWhole pages i k.0 h)
fault_once g pages roots (Short i) (RootTwice j) h k = absurd (other_else IsWhole pages i k.0 h)
fault_once g pages roots (Short i) (NoPage j) h k = absurd (other_else IsWhole pages i k.0 h)
fault_once g pages roots (Short i) (Again c d) h k = absurd (other_else IsWhole pages i k.0.whole h)
fault_once g pages roots (Short i) NoMemory h k = inr (inl refl)
fault_once g pages roots (PageTwice i) (Short j) h k = absurd (other_else IsWhole pages j h.0 k)
fault_once g pages roots (PageTwice i) (PageTwice j) h k =
    inr (inr (ap PageTwice (repeated_once (λ p. p.frame) pages i j h.1 k.1)))
fault_once g pages roots (PageTwice i) (NoTree j) h k = absurd (repeated_else (λ p. p.frame) pages i k.1 h.1)
fault_once g pages roots (PageTwice i) (RootTwice j) h k = absurd (repeated_else (λ p. p.frame) pages i k.1 h.1)
fault_once g pages roots (PageTwice i) (NoPage j) h k = absurd (repeated_else (λ p. p.frame) pages i k.1 h.1)
fault_once g pages roots (PageTwice i) (Again c d) h k = absurd (repeated_else (λ p. p.frame) pages i k.0.frames h.1)
fault_once g pages roots (PageTwice i) NoMemory h k = inr (inl refl)
fault_once g pages roots (NoTree i) (Short j) h k = absurd (other_else IsWhole pages j h.0 k)
fault_once g pages roots (NoTree i) (PageTwice j) h k = absurd (repeated_else (λ p. p.frame) pages j h.1 k.1)
fault_once g pages roots (NoTree i) (NoTree j) h k = inr (inr (ap NoTree (other_once IsKnown roots i j h.2 k.2)))
fault_once g pages roots (NoTree i) (RootTwice j) h k = absurd (other_else IsKnown roots i k.2 h.2)
fault_once g pages roots (NoTree i) (NoPage j) h k = absurd (other_else IsKnown roots i k.2 h.2)
fault_once g pages roots (NoTree i) (Again c d) h k = absurd (other_else IsKnown roots i k.0.known h.2)
fault_once g pages roots (NoTree i) NoMemory h k = inr (inl refl)
fault_once g pages roots (RootTwice i) (Short j) h k = absurd (other_else IsWhole pages j h.0 k)
fault_once g pages roots (RootTwice i) (PageTwice j) h k = absurd (repeated_else (λ p. p.frame) pages j h.1 k.1)
fault_once g pages roots (RootTwice i) (NoTree j) h k = absurd (other_else IsKnown roots j h.2 k.2)
fault_once g pages roots (RootTwice i) (RootTwice j) h k =
    inr (inr (ap RootTwice (repeated_once (λ r. r.tree) roots i j h.3 k.3)))
fault_once g pages roots (RootTwice i) (NoPage j) h k = absurd (repeated_else (λ r. r.tree) roots i k.3 h.3)
fault_once g pages roots (RootTwice i) (Again c d) h k = absurd (repeated_else (λ r. r.tree) roots i k.0.trees h.3)
fault_once g pages roots (RootTwice i) NoMemory h k = inr (inl refl)
fault_once g pages roots (NoPage i) (Short j) h k = absurd (other_else IsWhole pages j h.0 k)
fault_once g pages roots (NoPage i) (PageTwice j) h k = absurd (repeated_else (λ p. p.frame) pages j h.1 k.1)
fault_once g pages roots (NoPage i) (NoTree j) h k = absurd (other_else IsKnown roots j h.2 k.2)
fault_once g pages roots (NoPage i) (RootTwice j) h k = absurd (repeated_else (λ r. r.tree) roots j h.3 k.3)
fault_once g pages roots (NoPage i) (NoPage j) h k =
    inr (inr (ap NoPage (other_once (HasPage pages) roots i j h.4 k.4)))
fault_once g pages roots (NoPage i) (Again c d) h k = absurd (other_else (HasPage pages) roots i k.0.root_pages h.4)
fault_once g pages roots (NoPage i) NoMemory h k = inr (inl refl)
fault_once g pages roots (Again a b) (Short j) h k = absurd (other_else IsWhole pages j h.0.whole k)
fault_once g pages roots (Again a b) (PageTwice j) h k = absurd (repeated_else (λ p. p.frame) pages j h.0.frames k.1)
fault_once g pages roots (Again a b) (NoTree j) h k = absurd (other_else IsKnown roots j h.0.known k.2)
fault_once g pages roots (Again a b) (RootTwice j) h k = absurd (repeated_else (λ r. r.tree) roots j h.0.trees k.3)
fault_once g pages roots (Again a b) (NoPage j) h k = absurd (other_else (HasPage pages) roots j h.0.root_pages k.4)
fault_once g pages roots (Again a b) (Again c d) h k = inr (inr (again_once (all_tables g pages roots) a b c d h.1 k.1))
fault_once g pages roots (Again a b) NoMemory h k = inr (inl refl)
fault_once g pages roots NoMemory f h k = inl refl
