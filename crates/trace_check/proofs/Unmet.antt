-- Expectations, from a place on.
use Rattle.std.proofs.Common.{◌≡◌, refl, ℕ, zero, suc, ◌+◌, ◌<◌, ◌≤◌, Bor, sym, ◌∙◌, ap, arith, List, [], ◌∷◌, ◌++◌, length, drop, map, get_or}
use Rattle.std.specs.Prelude.{slice_get, option_map, Option, Some, None, IfSome, MatchOption}
use Rattle.std.proofs.lemmas.Option.{slice_get_past, slice_get-get_or}
use Rattle.trace_check.specs.Misses.{unmet, unmet_at}
use Rattle.trace_check.proofs.Steps.{from_place}

-- the first of what is left from a place on, and what is left behind it
first_left : {X : Type 0} (xs : List X) (k : ℕ) → slice_get (drop k xs) 0 ≡ slice_get xs k
first_left [] zero = refl
first_left [] (suc k) = refl
first_left (x ∷ xs) zero = refl
first_left (x ∷ xs) (suc k) = first_left xs k

one_left : {X : Type 0} (xs : List X) (k j : ℕ) → j ≡ suc k → drop 1 (drop k xs) ≡ drop j xs
one_left [] zero j e = rw e refl
one_left [] (suc k) j e = rw e refl
one_left (x ∷ xs) zero j e = rw e refl
one_left (x ∷ xs) (suc k) j e = rw e (one_left xs k (suc k) refl)

-- what a look at a place of a list gives
pub got_at : {X : Type 0} (P : Bor X → Type 0) (r : Option (Bor X)) (xs : List X) (k : ℕ)
    → MatchOption r (length xs ≤ k) (λ x. (k < length xs) × P x)
    → IfSome r (λ x. x.now ≡ get_or xs k x.now) → option_map (λ x. x.now) r ≡ slice_get xs k
got_at P None xs k m h = sym (slice_get_past xs k m)
got_at P (Some x) xs k m h = ap (λ y. Some y) h ∙ sym (slice_get-get_or xs k x.now m.0)

module _ {X : Type 0} (now : X → List ℕ) (why : List ℕ) (got : List (List ℕ)) where
  pub unmet_from : (texts : List X) (number k : ℕ) (d : X) → k < length texts
      → unmet (number + k + 1) why (drop k got) (map now (drop k texts))
      ≡ unmet_at (number + k + 1) why (slice_get got k) (now (get_or texts k d))
      ++ unmet (number + (k + 1) + 1) why (drop (k + 1) got) (map now (drop (k + 1) texts))
  unmet_from texts number k d less =
      from_place (λ n xs. unmet (number + n + 1) why (drop n got) (map now xs))
      (λ n x. unmet_at (number + n + 1) why (slice_get got n) (now x))
      (λ n x xs.
      ap
      (λ o. unmet_at (number + n + 1) why o (now x)
      ++ unmet (number + n + 1 + 1) why (drop 1 (drop n got)) (map now xs))
      (first_left got n)
      ∙ ap
      (λ g. unmet_at (number + n + 1) why (slice_get got n) (now x)
      ++ unmet (number + n + 1 + 1) why g (map now xs))
      (one_left got n (n + 1) (omega arith))
      ∙ ap
      (λ m. unmet_at (number + n + 1) why (slice_get got n) (now x) ++ unmet m why (drop (n + 1) got) (map now xs))
      (omega arith))
      texts k (k + 1) d k (k + 1) less refl (omega arith)
