-- The last part of a trace, which is no line where it has no byte.
use Rattle.std.proofs.Common.{◌≡◌, ℕ, ◌-◌, refl, ap, arith, List, [], ◌∷◌, length, get_or, take, map}
use Rattle.std.proofs.lemmas.Bool.Decides.{nat_tests}
use Rattle.trace_reader.specs.Reading.{without_empty_last}

-- no part
pub cut_none : {X : Type 0} (now : X → List ℕ) (xs : List X)
    → length xs ≡ 0
    → map now xs ≡ without_empty_last (map now xs)
cut_none now [] e = refl
cut_none now (x ∷ xs) e = absurd (omega (arith, e))

-- a last part with a byte stays
pub cut_some : {X : Type 0} (now : X → List ℕ) (x : X) (xs : List X) (d : X)
    → (length (now (get_or (x ∷ xs) (length xs) d)) ≡ 0 → ⊥)
    → map now (x ∷ xs) ≡ without_empty_last (map now (x ∷ xs))
cut_some now x [] d h = grind (arith, nat_tests, h)
cut_some now x (y ∷ ys) d h = ap (λ l. now x ∷ l) (cut_some now y ys d h)

-- one without is left out
pub cut_last : {X : Type 0} (now : X → List ℕ) (x : X) (xs : List X) (d : X)
    → length (now (get_or (x ∷ xs) (length xs) d)) ≡ 0
    → map now (take (length xs) (x ∷ xs)) ≡ without_empty_last (map now (x ∷ xs))
cut_last now x [] d h = grind (arith, nat_tests, h)
cut_last now x (y ∷ ys) d h = ap (λ l. now x ∷ l) (cut_last now y ys d h)

-- so of all parts, of which there are some
pub keeps_some : {X : Type 0} (now : X → List ℕ) (xs : List X) (n : ℕ) (d : X)
    → n ≡ length xs
    → (n ≡ 0 → ⊥)
    → (length (now (get_or xs (n - 1) d)) ≡ 0 → ⊥)
    → map now xs ≡ without_empty_last (map now xs)
keeps_some now [] n d e some h = absurd (some e)
keeps_some now (x ∷ xs) n d e some h =
    cut_some now x xs d (let same : n - 1 ≡ length xs = omega (arith, e) in rw same at h)

pub drops_last : {X : Type 0} (now : X → List ℕ) (xs : List X) (n : ℕ) (d : X)
    → n ≡ length xs
    → (n ≡ 0 → ⊥)
    → length (now (get_or xs (n - 1) d)) ≡ 0
    → map now (take (n - 1) xs) ≡ without_empty_last (map now xs)
drops_last now [] n d e some h = absurd (some e)
drops_last now (x ∷ xs) n d e some h = let same : n - 1 ≡ length xs = omega (arith, e) in
    rw same (cut_last now x xs d (rw same at h))
