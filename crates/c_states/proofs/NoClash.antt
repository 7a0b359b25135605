-- Lists of which no member clashes with an earlier one.
use Rattle.std.proofs.Common.{◌≡◌, ℕ, ◌+◌, ◌<◌, ◌≤◌, Bool, true, false, List, length, take, get_or, ap, subst, sym, ◌∙◌, arith}
use Rattle.std.specs.List.{list_any}
use Rattle.std.proofs.lemmas.Option.{get_or_from_slice_get, slice_get_within}
use Rattle.page_state.proofs.Cases.{by_lt}
use Rattle.c_states.specs.Clashes.{IsClash}

-- one member more
pub no_clash_more : {X : Type 0} (clash : X → X → Bool) (xs : List X) (i : ℕ) (d : X)
    → ((j : ℕ) → j < i → IsClash clash xs j → ⊥)
    → list_any (clash (get_or xs i d)) (take i xs) ≡ false → (j : ℕ) → j < i + 1 → IsClash clash xs j → ⊥
no_clash_more {X} clash xs i d none one j less h = by_lt j i (λ l. none j l h) (λ l.
    let same : j ≡ i = omega (arith, less, l) in
    let bad : list_any (clash (get_or xs j d)) (take j xs) ≡ true =
    ap (λ (x : X). list_any (clash x) (take j xs)) (get_or_from_slice_get xs j h.member d h.is) ∙ h.earlier in
    let wrong : false ≡ true =
    sym one ∙ subst (λ (n : ℕ). list_any (clash (get_or xs n d)) (take n xs) ≡ true) same bad in
    absurd (let e = wrong in cc))

-- all members
pub no_clash_all : {X : Type 0} (clash : X → X → Bool) (xs : List X) (i : ℕ)
    → length xs ≤ i
    → ((j : ℕ) → j < i → IsClash clash xs j → ⊥)
    → (j : ℕ)
    → IsClash clash xs j
    → ⊥
no_clash_all clash xs i end none j h = let within : j < length xs = slice_get_within xs j h.member h.is in
    none j (omega (arith, within, end)) h
