-- Lists of what has a range, in order: what is found at a page, by its place.
use Rattle.std.proofs.Common.{◌≡◌, ℕ, zero, suc, ◌+◌, ◌<◌, ◌≤◌, true, false, List, [], ◌∷◌, take, drop, length, get_or, Some, None, refl, sym, subst, ◌∙◌, arith}
use Rattle.std.proofs.lemmas.Bool.Decides.{nat_tests}
use Rattle.page_state.specs.declared.entry.PageRange.{PageRange}
use Rattle.page_state.specs.Map.{is_within}
use Rattle.page_state.specs.Regions.{end_of, is_in_range}
use Rattle.page_state.proofs.Cases.{by_test}
use Rattle.ghost_legal.specs.declared.places.Place.{Place}
use Rattle.ghost_legal.specs.Ranges.{BeginsFrom, AreInOrder, EndBy, at, IsNear, IsPlace}

pub outside_before : (a n p : ℕ) → p < a → is_within a n p ≡ false
outside_before a n p h = grind (arith, nat_tests)

pub outside_behind : (a n p : ℕ) → a + n ≤ p → is_within a n p ≡ false
outside_behind a n p h = grind (arith, nat_tests)

pub inside_of : (a n p : ℕ) → a ≤ p → p < a + n → is_within a n p ≡ true
inside_of a n p h k = grind (arith, nat_tests)

module _ {T : Type 0} (range : T → PageRange) where
  -- one more ends by the page
  pub one_more : (page i : ℕ) (xs : List T) (d : T)
      → EndBy range page (take i xs)
      → i < length xs
      → end_of (range (get_or xs i d)) ≤ page
      → EndBy range page (take (i + 1) xs)
  one_more page i xs d h less e = let n : suc i ≡ i + 1 = omega arith in
      subst (λ (k : ℕ). EndBy range page (take k xs)) n (more i xs h less e)
    where
      more : (i : ℕ) (xs : List T)
          → EndBy range page (take i xs)
          → i < length xs
          → end_of (range (get_or xs i d)) ≤ page
          → EndBy range page (take (suc i) xs)
      more i [] h less e = tt
      more zero (x ∷ xs) h less e = (e, tt)
      more (suc i) (x ∷ xs) h less e = (h.0, more i xs h.1 (omega (arith, less)) e)

  -- what ends by a page ends by a later one
  pub end_later : (page later : ℕ) (xs : List T) → page ≤ later → EndBy range page xs → EndBy range later xs
  end_later page later [] h e = tt
  end_later page later (x ∷ xs) h e = (omega (arith, h, e.0), end_later page later xs h e.1)

  pub near_later : (page later n : ℕ) (xs : List T) → page ≤ later → IsNear range page n xs → IsNear range later n xs
  near_later page later n xs h k = record { within = k.within; before = end_later page later (take n xs) h k.before }

  -- what ends by the page has no page from there on
  skipped : (n : ℕ) (xs : List T) (page p : ℕ)
      → EndBy range page (take n xs)
      → page ≤ p
      → at range xs p ≡ at range (drop n xs) p
  skipped zero xs page p e h = refl
  skipped (suc n) [] page p e h = refl
  skipped (suc n) (x ∷ xs) page p e h =
      rw (outside_behind (range x).first.0 (range x).count p (omega (arith, e.0, h))) (skipped n xs page p e.1 h)

  begins_later : (low high : ℕ) (xs : List T) → low ≤ high → BeginsFrom range high xs → BeginsFrom range low xs
  begins_later low high [] h b = tt
  begins_later low high (x ∷ xs) h b = omega (arith, h, b)

  -- no page before the first
  none_before : (xs : List T) (low p : ℕ)
      → AreInOrder range xs
      → BeginsFrom range low xs
      → p < low
      → at range xs p ≡ None
  none_before [] low p o b h = refl
  none_before (x ∷ xs) low p o b h =
      rw (outside_before (range x).first.0 (range x).count p (omega (arith, b, h)))
      (none_before xs low p o.1 (begins_later low (end_of (range x)) xs (omega (arith, b)) o.0) h)

  dropped : (n : ℕ) (xs : List T) → AreInOrder range xs → AreInOrder range (drop n xs)
  dropped zero xs o = o
  dropped (suc n) [] o = tt
  dropped (suc n) (x ∷ xs) o = dropped n xs o.1

  first-at : (n : ℕ) (xs : List T) (d : T) (p : ℕ)
      → n < length xs
      → is_in_range (range (get_or xs n d)) p ≡ true
      → at range (drop n xs) p ≡ Some (get_or xs n d)
  first-at n [] d p less h = absurd (omega (arith, less))
  first-at zero (x ∷ xs) d p less h = rw h refl
  first-at (suc n) (x ∷ xs) d p less h = first-at n xs d p (omega (arith, less)) h

  module _ (xs : List T) (page : ℕ) (p : Place) (here : IsPlace range page p xs) where
    -- inside, the range at the place has the pages up to its end
    pub at-inside : (d : T) (f : ℕ)
        → p.inside ≡ true
        → page ≤ f
        → f < p.until
        → at range xs f ≡ Some (get_or xs p.number d)
    at-inside d f t a b =
        let i = here.inside t in
        let e = i.1 d in
        let r = range (get_or xs p.number d) in
        skipped p.number xs page f here.near.before a
        ∙ first-at p.number xs d f i.0
        (inside_of r.first.0 r.count f (omega (arith, e.0, a)) (omega (arith, e.1, b)))

    -- outside, no range has them
    pub at-outside : AreInOrder range xs → (f : ℕ) → p.inside ≡ false → page ≤ f → f < p.until → at range xs f ≡ None
    at-outside o f t a b =
        skipped p.number xs page f here.near.before a
        ∙ none_before (drop p.number xs) p.until f (dropped p.number xs o) (here.outside t) b

    -- all along the same is found
    pub at-same : AreInOrder range xs → (f : ℕ) → page ≤ f → f < p.until → at range xs f ≡ at range xs page
    at-same o f a b =
        by_test p.inside (λ t. inside t xs here)
        (λ t. at-outside o f t a b ∙ sym (at-outside o page t (omega arith) here.above))
      where
        inside : p.inside ≡ true → (ys : List T) → IsPlace range page p ys → at range ys f ≡ at range ys page
        inside t [] k = refl
        inside t (y ∷ ys) k = within-same (y ∷ ys) y k
          where
            within-same : (zs : List T) (d : T) → IsPlace range page p zs → at range zs f ≡ at range zs page
            within-same zs d k =
                let i = k.inside t in
                let e = i.1 d in
                let r = range (get_or zs p.number d) in
                (skipped p.number zs page f k.near.before a
                ∙ first-at p.number zs d f i.0
                (inside_of r.first.0 r.count f (omega (arith, e.0, a)) (omega (arith, e.1, b))))
                ∙ sym
                (skipped p.number zs page page k.near.before (omega arith)
                ∙ first-at p.number zs d page i.0
                (inside_of r.first.0 r.count page e.0 (omega (arith, e.1, k.above))))

  -- what is found at a page has it
  pub at-has : (xs : List T) (p : ℕ) (x : T) → at range xs p ≡ Some x → is_in_range (range x) p ≡ true
  at-has [] p x h = cc
  at-has (y ∷ ys) p x h = by_test (is_in_range (range y) p)
      (λ t. let e : Some y ≡ Some x = rw t at h in
      let same : y ≡ x = cc in
      subst (λ z. is_in_range (range z) p ≡ true) same t)
      (λ t. let e : at range ys p ≡ Some x = rw t at h in at-has ys p x e)
