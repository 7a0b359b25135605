-- What holds where nothing is named.
use Rattle.std.proofs.Common.{◌≡◌, ℕ, zero, suc, ◌+◌, ◌-◌, ◌^◌, ◌<◌, Bool, true, false, List, [], ◌∷◌, ◌++◌, length, take, Option, Some, None, refl, subst, ◌∙◌, arith}
use Rattle.std.specs.Prelude.{nat_le, nat_lt, not, option_map, slice_get, if◌then◌else◌, ◌&&◌}
use Rattle.std.specs.List.{filter_map, list_any}
use Rattle.std.specs.List.{cons_option}
use Rattle.std.proofs.lemmas.Bool.Decides.{nat_tests}
use Rattle.std.proofs.lemmas.Option.{slice_get_within}
use Rattle.page_state.proofs.Cases.{by_lt}
use Rattle.image_findings.specs.Claims.{borrows, owns, shares}
use Rattle.image_findings.specs.Findings.{are_apart, clash_at, clash_of, clashes_of, common_frame, given_by, has_frame}
use Rattle.image_findings.specs.Laws.{AreBorrowed, AreShared, HaveFrame, HaveOneBorrower, HaveOneOwner}
use Rattle.image_findings.specs.Unborrowed.{first_from, is_of, unborrowed_of, unshared_of}
use Rattle.image_findings.specs.declared.claim.Claim.{Claim}
use Rattle.image_findings.specs.declared.unborrowed.Side.{Side}
use Rattle.image_findings.specs.declared.unborrowed.Side.TheVariants.{Sharer, Borrower}
use Rattle.image_findings.specs.declared.finding.Finding.TheVariants.{NoBorrower, Unshared, TwoBorrowers, TwoOwners}

-- both parts of a list without elements have none
left_none : {X : Type 0} (xs ys : List X) → xs ++ ys ≡ [] → xs ≡ []
left_none [] ys e = refl
left_none (x ∷ xs) ys e = absurd (cc)

right_none : {X : Type 0} (xs ys : List X) → xs ++ ys ≡ [] → ys ≡ []
right_none [] ys e = e
right_none (x ∷ xs) ys e = absurd (cc)

-- where nothing is given, no element gives anything
module _ {X Y : Type 0} (h : X → Option Y) where
  head_none : (o : Option Y) (ys : List Y) → cons_option o ys ≡ [] → (o ≡ None) × (ys ≡ [])
  head_none None ys e = (refl, e)
  head_none (Some y) ys e = absurd (cc)

  none_given : (xs : List X) (i : ℕ) (x : X) → filter_map h xs ≡ [] → slice_get xs i ≡ Some x → h x ≡ None
  none_given [] i x e g = absurd (cc)
  none_given (y ∷ ys) zero x e g = let same : y ≡ x = cc in
      subst (λ z. h z ≡ None) same (head_none (h y) (filter_map h ys) e).0
  none_given (y ∷ ys) (suc i) x e g = none_given ys i x (head_none (h y) (filter_map h ys) e).1 g

get_taken : {X : Type 0} (xs : List X) (n k : ℕ) → k < n → slice_get (take n xs) k ≡ slice_get xs k
get_taken xs zero k h = absurd (omega arith)
get_taken [] (suc n) k h = refl
get_taken (x ∷ xs) (suc n) zero h = refl
get_taken (x ∷ xs) (suc n) (suc k) h = get_taken xs n k (omega arith)

none_clash : (claims : List Claim) (n i j : ℕ) (a b : Claim)
    → clashes_of claims n ≡ []
    → i < j
    → j < n
    → slice_get claims i ≡ Some a
    → slice_get claims j ≡ Some b
    → clash_of b a ≡ None
unfolding clashes_of
none_clash claims zero i j a b e o l f s = absurd (omega arith)
none_clash claims (suc n) i j a b e o l f s = by_lt j n
    (λ less. none_clash claims n i j a b (left_none (clashes_of claims n) _ e) o less f s)
    (λ more.
    let same : n ≡ j = omega arith in
    let last = right_none (clashes_of claims n) _ e in
    let there =
    subst
    (λ m. given_by (λ claim. filter_map (clash_of claim) (take m claims)) (slice_get claims m) ≡ []) same last
    in
    let here : filter_map (clash_of b) (take j claims) ≡ [] = rw s at there in
    none_given (clash_of b) (take j claims) i a here (get_taken claims j i o ∙ f))

-- claims that have a frame have a first one
common_some : (a b : Claim) (frame : ℕ)
    → has_frame a frame ≡ true
    → has_frame b frame ≡ true
    → (f : ℕ) × (common_frame a b ≡ Some f)
common_some a b frame p q = by_lt a.frame b.frame
    (λ less.
    let t : nat_lt a.frame b.frame ≡ true = grind (arith, nat_tests) in
    let u : nat_lt (b.frame - a.frame) a.count ≡ true = grind (arith, nat_tests) in
    (b.frame, rw (t, u) refl))
    (λ more.
    let t : nat_lt a.frame b.frame ≡ false = grind (arith, nat_tests) in
    let u : nat_lt (a.frame - b.frame) b.count ≡ true = grind (arith, nat_tests) in
    (a.frame, rw (t, u) refl))

-- what tests must be where nothing is given
not_owners : {X : Type 0} (oa ob apart both : Bool) (x y : X)
    → (if (oa && ob) && not apart then Some x else (if both then Some y else None)) ≡ None
    → oa ≡ true
    → ob ≡ true
    → apart ≡ true
not_owners oa ob true both x y e p q = refl
not_owners true true false both x y e p q = absurd (cc)
not_owners true false false both x y e p q = absurd (cc)
not_owners false ob false both x y e p q = absurd (cc)

not_borrowers : {X : Type 0} (owners ba bb : Bool) (x y : X)
    → (if owners then Some x else (if ba && bb then Some y else None)) ≡ None
    → ba ≡ true
    → bb ≡ true
    → ⊥
not_borrowers true ba bb x y e p q = cc
not_borrowers false true true x y e p q = cc
not_borrowers false true false x y e p q = cc
not_borrowers false false bb x y e p q = cc

clash_none : (claims : List Claim) (i j : ℕ) (a b : Claim) (frame : ℕ)
    → clashes_of claims (length claims) ≡ []
    → HaveFrame claims i j a b frame
    → (f : ℕ) × (clash_at b a (Some f) ≡ None)
clash_none claims i j a b frame e h =
    let none : clash_of b a ≡ None =
    none_clash claims (length claims) i j a b e h.order (slice_get_within claims j b h.second) h.first h.second in
    let c = common_some a b frame h.in_first h.in_second in
    (c.0, subst (λ o. clash_at b a o ≡ None) c.1 none)

pub one_owner : HaveOneOwner
one_owner claims i j a b frame e h p q = let at = clash_none claims i j a b frame e h in
    not_owners (owns a) (owns b) (are_apart a b) (borrows a && borrows b) (TwoOwners at.0 a b)
    (TwoBorrowers at.0 a b) at.1 p q

pub one_borrower : HaveOneBorrower
one_borrower claims i j a b frame e h p q = let at = clash_none claims i j a b frame e h in
    not_borrowers ((owns a && owns b) && not (are_apart a b)) (borrows a) (borrows b) (TwoOwners at.0 a b)
    (TwoBorrowers at.0 a b) at.1 p q

-- frames of a range of which none is unborrowed
all_of : (past some : Bool) (f : ℕ) (rest : Option ℕ)
    → (if past then None else (if not some then Some f else rest)) ≡ None
    → past ≡ false
    → (some ≡ true) × (rest ≡ None)
all_of true some f rest e p = absurd (cc)
all_of false true f rest e p = (refl, e)
all_of false false f rest e p = absurd (cc)

first_none : (side : Side) (claims : List Claim) (frame n k : ℕ)
    → first_from side claims frame n ≡ None
    → k < n
    → frame + n < 2 ^ 64
    → list_any (is_of side (frame + k)) claims ≡ true
unfolding first_from
first_none side claims frame zero k e h l = absurd (omega arith)
first_none side claims frame (suc n) zero e h l =
    let t : nat_le (2 ^ 64) frame ≡ false = grind (arith, nat_tests) in
    let same : frame ≡ frame + 0 = omega arith in
    subst (λ f. list_any (is_of side f) claims ≡ true) same
    (all_of (nat_le (2 ^ 64) frame) (list_any (is_of side frame) claims) frame
    (first_from side claims (frame + 1) n) e t).0
first_none side claims frame (suc n) (suc k) e h l =
    let t : nat_le (2 ^ 64) frame ≡ false = grind (arith, nat_tests) in
    let same : frame + 1 + k ≡ frame + suc k = omega arith in
    let rest =
    (all_of (nat_le (2 ^ 64) frame) (list_any (is_of side frame) claims) frame
    (first_from side claims (frame + 1) n) e t).1 in
    subst (λ f. list_any (is_of side f) claims ≡ true) same
    (first_none side claims (frame + 1) n k rest (omega arith) (omega arith))

found_none : {X : Type 0} (f : ℕ → X) (part : Bool) (o : Option ℕ)
    → (if not part then None else option_map f o) ≡ None
    → part ≡ true
    → o ≡ None
found_none f true None e p = refl
found_none f true (Some x) e p = absurd (cc)
found_none f false o e p = absurd (cc)

pub are_borrowed : AreBorrowed
are_borrowed claims i k a e g p below small =
    first_none Borrower claims a.frame a.count k
    (found_none (λ frame. NoBorrower frame a) (shares a) (first_from Borrower claims a.frame a.count)
    (none_given (unborrowed_of claims) claims i a e g) p) below small

pub are_shared : AreShared
are_shared claims i k a e g p below small =
    first_none Sharer claims a.frame a.count k
    (found_none (λ frame. Unshared frame a) (borrows a) (first_from Sharer claims a.frame a.count)
    (none_given (unshared_of claims) claims i a e g) p) below small
