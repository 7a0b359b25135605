-- Lines one after another.
use Rattle.std.proofs.Common.{◌≡◌, ℕ, zero, suc, ◌+◌, ◌<◌, ◌≤◌, List, [], ◌∷◌, ◌++◌, length, map, take, get_or, refl, sym, ap, ◌∙◌, append_assoc, arith}
use Rattle.std.proofs.lemmas.List.{map-append, take_more}

append_nil : {X : Type 0} (xs : List X) → xs ++ [] ≡ xs
append_nil [] = refl
append_nil (x ∷ xs) = ap (λ ys. x ∷ ys) (append_nil xs)

taken_all : {X : Type 0} (xs : List X) (n : ℕ) → length xs ≤ n → take n xs ≡ xs
taken_all [] zero h = refl
taken_all [] (suc n) h = refl
taken_all (x ∷ xs) zero h = absurd (omega arith)
taken_all (x ∷ xs) (suc n) h = ap (λ ys. x ∷ ys) (taken_all xs n (omega arith))

module _ {X Y : Type 0} (f : X → Y) where
  pub none_told : (xs : List X) (start : List Y) → start ≡ start ++ map f (take 0 xs)
  none_told xs start = sym (append_nil start)

  pub more_told : (xs : List X) (i : ℕ) (d : X) (start now next : List Y)
      → i < length xs
      → now ≡ start ++ map f (take i xs)
      → next ≡ now ++ f (get_or xs i d) ∷ []
      → next ≡ start ++ map f (take (i + 1) xs)
  more_told xs i d start now next inside e n =
      let x = get_or xs i d in
      let step = ap (map f) (take_more xs i d inside) ∙ map-append f (take i xs) (x ∷ []) in
      n
      ∙ (ap (λ z. z ++ f x ∷ []) e
      ∙ (append_assoc start (map f (take i xs)) (f x ∷ []) ∙ ap (λ z. start ++ z) (sym step)))

  pub all_told : (xs : List X) (i : ℕ) (start now : List Y)
      → length xs ≤ i
      → now ≡ start ++ map f (take i xs)
      → now ≡ start ++ map f xs
  all_told xs i start now past e = e ∙ ap (λ ys. start ++ map f ys) (taken_all xs i past)
