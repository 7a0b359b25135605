-- Looking a word up among those that are kept.
use Rattle.std.proofs.Common.{◌≡◌, ℕ, zero, suc, ◌<◌, List, [], ◌∷◌, length, get_or, drop, take, map, Some, ap, arith}
use Rattle.std.specs.Prelude.{slice_get}

-- a word that is kept is the line's at its place
pub kept_word : {X : Type 0} (now : X → List ℕ) (kept : List X) (words : List (List ℕ)) (n : ℕ)
    → map now kept ≡ take n words
    → (place : ℕ) (x : X)
    → place < length kept
    → Some (now (get_or kept place x)) ≡ slice_get words place
kept_word now [] words n e place x l = absurd (omega (arith, l))
kept_word now (k ∷ ks) [] zero e place x l = absurd (omega (arith, ap length e))
kept_word now (k ∷ ks) [] (suc n) e place x l = absurd (omega (arith, ap length e))
kept_word now (k ∷ ks) (w ∷ ws) zero e place x l = absurd (omega (arith, ap length e))
kept_word now (k ∷ ks) (w ∷ ws) (suc n) e zero x l = ap (λ v. Some v) (ap (λ l. get_or l 0 w) e)
kept_word now (k ∷ ks) (w ∷ ws) (suc n) e (suc place) x l =
    kept_word now ks ws n (ap (drop 1) e) place x (omega (arith, l))
