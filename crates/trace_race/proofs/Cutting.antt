-- Lists cut down by tests, without the first that passes one of them.
use Rattle.std.proofs.Common.{◌≡◌, ◌≢◌, ℕ, ◌==◌, arith, refl, ap, sym, ◌∙◌, subst, inl, inr, List, [], ◌∷◌, ◌++◌}
use Rattle.std.specs.Prelude.{Bool, true, false, ◌⊎◌, filter}
use Rattle.std.proofs.lemmas.List.Elements.{filter-append}
use Rattle.page_state.proofs.Common.{both}
use Rattle.reference_model.proofs.Ends.{filter-false, filter-true}

nil_or_cons : {X : Type 0} (xs : List X) → (xs ≡ []) ⊎ ((x : X) × (rest : List X) × (xs ≡ x ∷ rest))
nil_or_cons [] = inl refl
nil_or_cons (x ∷ xs) = inr (x, xs, refl)

-- nothing of a list passes, so neither does its head nor anything behind it
pub filter-nil : {X : Type 0} (f : X → Bool) (x : X) (xs : List X)
    → filter f (x ∷ xs) ≡ []
    → (f x ≡ false) × (filter f xs ≡ [])
filter-nil f x xs h = elim (both (f x)) [
  | inl t ↦ let e = sym (filter-true f x xs t) ∙ h in cc
  | inr t ↦ (t, sym (filter-false f x xs t) ∙ h)
]

-- the first that passes one test doesn't pass a test that nothing passes
filter-first : {X : Type 0} (f g : X → Bool) (xs : List X) (x : X) (rest : List X)
    → filter g xs ≡ x ∷ rest
    → filter f xs ≡ []
    → f x ≡ false
filter-first f g [] x rest h k = cc
filter-first f g (y ∷ xs) x rest h k = elim (both (g y)) [
  | inl t ↦
      let e : y ∷ filter g xs ≡ x ∷ rest = sym (filter-true g y xs t) ∙ h in
      let same : y ≡ x = cc in
      subst (λ z. f z ≡ false) same (filter-nil f y xs k).0
  | inr t ↦ filter-first f g xs x rest (sym (filter-false g y xs t) ∙ h) (filter-nil f y xs k).1
]

-- a list up to the first that passes
pub record Cut {X : Type 0} (f : X → Bool) (xs : List X) (x : X) : Type 0 where
  pub pre : List X
  pub post : List X
  pub whole : xs ≡ pre ++ (x ∷ post)
  pub none : filter f pre ≡ []

pub cut : {X : Type 0} (f : X → Bool) (xs : List X) (x : X) (rest : List X) → filter f xs ≡ x ∷ rest → Cut f xs x
cut f [] x rest h = cc
cut f (y ∷ xs) x rest h = elim (both (f y)) [
  | inl t ↦
      let e : y ∷ filter f xs ≡ x ∷ rest = sym (filter-true f y xs t) ∙ h in
      let same : y ≡ x = cc in
      record { pre = []; post = xs; whole = ap (λ z. z ∷ xs) same; none = refl }
  | inr t ↦
      let more : Cut f xs x = cut f xs x rest (sym (filter-false f y xs t) ∙ h) in
      record {
        pre = y
            ∷ more.pre;
        post = more.post;
        whole = ap (λ zs. y ∷ zs) more.whole;
        none = filter-false f y more.pre t
            ∙ more.none;
      }
]

-- two lists with the same passing elements, each without one that passes first in both
pub without : {X : Type 0} (f : X → Bool) (x : X) (pre post xs : List X)
    → filter f (pre ++ (x ∷ post)) ≡ filter f (x ∷ xs)
    → (f x ≡ true → filter f pre ≡ [])
    → filter f (pre ++ post) ≡ filter f xs
without f x pre post xs h none = elim (both (f x)) [
  | inl t ↦
      let left : filter f (pre ++ (x ∷ post)) ≡ x ∷ filter f post =
      filter-append f pre (x ∷ post) ∙ ap (λ zs. zs ++ filter f (x ∷ post)) (none t) ∙ filter-true f x post t in
      let e : x ∷ filter f post ≡ x ∷ filter f xs = sym left ∙ h ∙ filter-true f x xs t in
      let tails : filter f post ≡ filter f xs = cc in
      filter-append f pre post ∙ ap (λ zs. zs ++ filter f post) (none t) ∙ tails
  | inr t ↦ filter-append f pre post ∙ ap (λ zs. filter f pre ++ zs) (sym (filter-false f x post t))
      ∙ sym (filter-append f pre (x ∷ post)) ∙ h ∙ filter-false f x xs t
]

-- what passes a test comes first in the one list where it does in the other: nothing before it passes
pub none-before : {X : Type 0} (f g : X → Bool) (x : X) (pre post xs : List X)
    → filter g (pre ++ (x ∷ post)) ≡ filter g (x ∷ xs)
    → filter f pre ≡ []
    → f x ≡ true
    → g x ≡ true
    → filter g pre ≡ []
none-before f g x pre post xs h none here u = elim (nil_or_cons (filter g pre)) [
  | inl e ↦ e
  | inr e ↦
      let left : e.0 ∷ (e.1 ++ filter g (x ∷ post)) ≡ filter g (pre ++ (x ∷ post)) =
      sym (filter-append g pre (x ∷ post) ∙ ap (λ zs. zs ++ filter g (x ∷ post)) e.2) in
      let heads : e.0 ∷ (e.1 ++ filter g (x ∷ post)) ≡ x ∷ filter g xs = left ∙ h ∙ filter-true g x xs u in
      let same : e.0 ≡ x = cc in
      let other : f e.0 ≡ false = filter-first f g pre e.0 e.1 e.2 none in
      let no : f x ≡ false = subst (λ z. f z ≡ false) same other in
      let both : true ≡ false = sym here ∙ no in
      absurd cc
]
