-- Lists joined of parts, and lists in order.
use Rattle.std.proofs.Common.{◌≡◌, ℕ, zero, suc, ◌+◌, ◌<◌, refl, sym, ap, subst, arith, ◌∙◌, inl, inr, ◌⊎◌, Bool, List, [], ◌∷◌, ◌++◌, length, length-append, filter, All, Contains, AllPairs, slice_index_or}
use Rattle.std.proofs.lemmas.List.Elements.{All-nil, All-append, All-contains, Contains-append_left, Contains-append_right, filter-append}
use Rattle.std.proofs.lemmas.List.Kept.{AllPairs-cons}
use Rattle.table_tree.specs.AllBlocks.{gathered}
use Rattle.walk_plan.specs.inner.Needs.{sum_to}
use Rattle.walk_plan.proofs.Cases.{by_last}

-- sums

pub sum_same : (f g : ℕ → ℕ) (n : ℕ) → ((i : ℕ) → i < n → f i ≡ g i) → sum_to f n ≡ sum_to g n
unfolding sum_to
sum_same f g zero h = refl
sum_same f g (suc n) h = let x = sum_same f g n (λ i p. h i (omega arith)) in
    let y = h n (omega arith) in
    omega (arith, x, y)

-- joined parts

module _ {X : Type 0} where
  pub length_joined : (f : ℕ → List X) (n : ℕ) → length (gathered f n) ≡ sum_to (λ i. length (f i)) n
  unfolding gathered sum_to
  length_joined f zero = refl
  length_joined f (suc n) = length-append (gathered f n) (f n) ∙ ap (λ k. k + length (f n)) (length_joined f n)

  pub filter_joined : (p : X → Bool) (f : ℕ → List X) (n : ℕ)
      → filter p (gathered f n) ≡ gathered (λ i. filter p (f i)) n
  unfolding gathered
  filter_joined p f zero = refl
  filter_joined p f (suc n) =
      filter-append p (gathered f n) (f n) ∙ ap (λ xs. xs ++ filter p (f n)) (filter_joined p f n)

  pub all_joined : (P : X → Type 0) (f : ℕ → List X) (n : ℕ) → ((i : ℕ) → i < n → All P (f i)) → All P (gathered f n)
  unfolding gathered
  all_joined P f zero h = All-nil P
  all_joined P f (suc n) h =
      All-append P (gathered f n) (f n) (all_joined P f n (λ i p. h i (omega arith))) (h n (omega arith))

  pub contains_joined : (f : ℕ → List X) (n i : ℕ) (x : X) → i < n → Contains (f i) x → Contains (gathered f n) x
  unfolding gathered
  contains_joined f zero i x p h = absurd (omega arith)
  contains_joined f (suc n) i x p h =
      by_last i n p
      (λ q. Contains-append_left (gathered f n) (f n) x (contains_joined f n i x q h))
      (λ q. Contains-append_right (gathered f n) (f n) x (subst (λ k. Contains (f k) x) q h))

  -- lists in order

  pairs_head : (R : X → X → Type 0) (x : X) (xs : List X) → AllPairs R (x ∷ xs) → All (R x) xs
  pairs_head R x xs h k d less = h 0 (suc k) d (omega arith) (omega arith)

  pairs_tail : (R : X → X → Type 0) (x : X) (xs : List X) → AllPairs R (x ∷ xs) → AllPairs R xs
  pairs_tail R x xs h i j d a b = h (suc i) (suc j) d (omega arith) (omega arith)

  pub pairs_nil : (R : X → X → Type 0) → AllPairs R []
  pairs_nil R i j d a b = absurd (omega arith)

  pairs_append : (R : X → X → Type 0) (xs ys : List X)
      → AllPairs R xs
      → AllPairs R ys
      → All (λ x. All (R x) ys) xs
      → AllPairs R (xs ++ ys)
  pairs_append R [] ys a b c = b
  pairs_append R (x ∷ xs) ys a b c =
      let more : AllPairs R (xs ++ ys) =
      pairs_append R xs ys (pairs_tail R x xs a) b (λ k d less. c (suc k) d (omega arith)) in
      AllPairs-cons R x (xs ++ ys) (All-append (R x) xs ys (pairs_head R x xs a) (c 0 x (omega arith))) more

  pub pairs_joined : (R : X → X → Type 0) (f : ℕ → List X) (n : ℕ)
      → ((i : ℕ) → i < n → AllPairs R (f i))
      → ((i j : ℕ) → i < j → j < n → All (λ x. All (R x) (f j)) (f i))
      → AllPairs R (gathered f n)
  unfolding gathered
  pairs_joined R f zero h k = pairs_nil R
  pairs_joined R f (suc n) h k =
      pairs_append R (gathered f n) (f n)
      (pairs_joined R f n (λ i p. h i (omega arith)) (λ i j p q. k i j p (omega arith))) (h n (omega arith))
      (all_joined (λ x. All (R x) (f n)) f n (λ i p. k i n p (omega arith)))

  contains_cases : (x : X) (xs : List X) (y : X) → Contains (x ∷ xs) y → (x ≡ y) ⊎ Contains xs y
  contains_cases x xs y h = at h.0 h.1 h.2
    where
      at : (k : ℕ) → k < length (x ∷ xs) → slice_index_or (x ∷ xs) k y ≡ y → (x ≡ y) ⊎ Contains xs y
      at zero p e = inl e
      at (suc k) p e = inr (k, omega arith, e)

  contains_head : (x : X) (xs : List X) → Contains (x ∷ xs) x
  contains_head x xs = (0, omega arith, refl)

  contains_tail : (x : X) (xs : List X) (y : X) → Contains xs y → Contains (x ∷ xs) y
  contains_tail x xs y h = let less : h.0 < length xs = h.1 in (suc h.0, omega arith, h.2)

  contains_nil : (y : X) → Contains [] y → ⊥
  contains_nil y h = let less : h.0 < 0 = h.1 in omega arith

  -- a list in a strict order is fixed by its members
  pub same_list : (R : X → X → Type 0)
      → ((a b : X) → R a b → R b a → ⊥)
      → (xs ys : List X)
      → AllPairs R xs
      → AllPairs R ys
      → ((z : X) → Contains xs z → Contains ys z)
      → ((z : X) → Contains ys z → Contains xs z)
      → xs ≡ ys
  same_list R strict [] [] a b f g = refl
  same_list R strict [] (y ∷ ys) a b f g = absurd (contains_nil y (g y (contains_head y ys)))
  same_list R strict (x ∷ xs) [] a b f g = absurd (contains_nil x (f x (contains_head x xs)))
  same_list R strict (x ∷ xs) (y ∷ ys) a b f g =
      let below : (z : X) → Contains xs z → R x z = λ z h. All-contains (R x) xs z (pairs_head R x xs a) h in
      let above : (z : X) → Contains ys z → R y z = λ z h. All-contains (R y) ys z (pairs_head R y ys b) h in
      let e : x ≡ y = elim (contains_cases y ys x (f x (contains_head x xs))) [
        | inl p ↦ sym p
        | inr p ↦ elim (contains_cases x xs y (g y (contains_head y ys)))
            [ inl q ↦ q | inr q ↦ absurd (strict y x (above x p) (below y q)) ]
      ] in
      let more : (z : X) → Contains xs z → Contains ys z =
      λ z h. elim (contains_cases y ys z (f z (contains_tail x xs z h))) [
        | inl p ↦ let r : R x z = below z h in
            let q : x ≡ z = e ∙ p in
            absurd (strict z z (subst (λ w. R w z) q r) (subst (λ w. R w z) q r))
        | inr p ↦ p
      ] in
      let back : (z : X) → Contains ys z → Contains xs z =
      λ z h. elim (contains_cases x xs z (g z (contains_tail y ys z h))) [
        | inl p ↦ let r : R y z = above z h in
            let q : y ≡ z = sym e ∙ p in
            absurd (strict z z (subst (λ w. R w z) q r) (subst (λ w. R w z) q r))
        | inr p ↦ p
      ] in
      let rest : xs ≡ ys = same_list R strict xs ys (pairs_tail R x xs a) (pairs_tail R y ys b) more back in
      rw (e, rest) refl
