-- Steps of loops that add, one after another, what a definition says of the members of a list.
use Rattle.std.proofs.Common.{◌≡◌, refl, ℕ, zero, suc, ◌+◌, ◌-◌, ◌<◌, ◌≤◌, sym, ◌∙◌, ap, arith, List, [], ◌∷◌, ◌++◌, length, drop, take, map, get_or, append_assoc}
use Rattle.std.proofs.lemmas.List.{append-nil, drop-map, length-drop, length-map, take_all}

-- what was added is one part more, and what is left one less
pub along : {M : Type 0} (old new part rest all goal : List M)
    → new ≡ old ++ part
    → all ≡ part ++ rest
    → old ++ all ≡ goal
    → new ++ rest ≡ goal
along old new part rest all goal e f h =
    ap (λ l. l ++ rest) e ∙ append_assoc old part rest ∙ ap (λ l. old ++ l) (sym f) ∙ h

-- nothing is left
pub at_end : {M : Type 0} (old all goal : List M) → all ≡ [] → old ++ all ≡ goal → old ≡ goal
at_end old all goal e h = sym (append-nil old) ∙ ap (λ l. old ++ l) (sym e) ∙ h

module _ {X M : Type 0} (f : ℕ → List X → List M) (g : ℕ → X → List M)
    (step : (n : ℕ) (x : X) (xs : List X) → f n (x ∷ xs) ≡ g n x ++ f (n + 1) xs) where
  -- what is left from a place on: its member's part, and what is left behind it
  pub from_place : (xs : List X) (k j : ℕ) (d : X) (n m : ℕ)
      → k < length xs
      → m ≡ n + 1
      → j ≡ suc k
      → f n (drop k xs) ≡ g n (get_or xs k d) ++ f m (drop j xs)
  from_place [] k j d n m less e s = absurd (omega (arith, less))
  from_place (x ∷ xs) zero j d n m less e s = rw s (step n x xs ∙ ap (λ i. g n x ++ f i xs) (sym e))
  from_place (x ∷ xs) (suc k) j d n m less e s = rw s (from_place xs k (suc k) d n m (omega (arith, less)) e refl)

-- nothing is past the end
pub past_end : {X Y : Type 0} (f : X → Y) (xs : List X) (n : ℕ) → length xs ≤ n → drop n (map f xs) ≡ []
past_end f [] zero h = refl
past_end f [] (suc n) h = refl
past_end f (x ∷ xs) zero h = absurd (omega (arith, h))
past_end f (x ∷ xs) (suc n) h = past_end f xs n (omega (arith, h))

-- lists of the code, and what they hold
pub left_of : {X Y Z V M : Type 0} (f : ℕ → List Y → List M) (now : X → Y) (of : Z → V) (xs : List X) (zs : List Z)
    → f (length zs) (map now (drop (length zs) xs)) ≡ f (length (map of zs)) (drop (length (map of zs)) (map now xs))
left_of f now of xs zs =
    ap (f (length zs)) (sym (drop-map now (length zs) xs))
    ∙ ap (λ n. f n (drop n (map now xs))) (sym (length-map zs of))

-- what is left of a list from a place on, as code cuts it
pub to_end : {X : Type 0} (xs : List X) (k : ℕ) → take (length xs - k) (drop k xs) ≡ drop k xs
to_end xs k = take_all (length xs - k) (drop k xs) (omega (arith, length-drop k xs))
