-- What loops over lists and over trees keep.
use Rattle.std.proofs.Common.{ℕ, zero, suc, ◌+◌, ◌<◌, ◌≤◌, List, [], ◌∷◌, Option, Some, None, take, length, sym, subst, arith}
use Rattle.std.specs.Prelude.{All, MatchOption}
use Rattle.std.proofs.lemmas.List.Elements.{All-nil, All-cons, All-head, All-tail}
use Rattle.page_state.proofs.Cases.{by_eq}

-- all of the members before the list's end are all
pub all-taken : {X : Type 0} (P : X → Type 0) (xs : List X) (i : ℕ) → length xs ≤ i → All P (take i xs) → All P xs
all-taken P [] i less h = All-nil P
all-taken P (x ∷ xs) zero less h = absurd (omega (arith, less))
all-taken P (x ∷ xs) (suc i) less h =
    All-cons P x xs (All-head P x (take i xs) h) (all-taken P xs i (omega (arith, less)) (All-tail P x (take i xs) h))

-- what holds below a number and at it holds below the next
pub below_more : (P : ℕ → Type 0) (n : ℕ) → ((u : ℕ) → u < n → P u) → P n → (u : ℕ) → u < n + 1 → P u
below_more P n before here u less = by_eq u n (λ e. subst P (sym e) here) (λ e. before u (omega (arith, less, e)))

-- both cases of a result, in other words
pub match-both : {X : Type 0} {A B : Type 0} {P : X → Type 0} (Q : X → Type 0) (o : Option X)
    → (A → B)
    → ((x : X) → P x → Q x)
    → MatchOption o A P
    → MatchOption o B Q
match-both Q None f g h = f h
match-both Q (Some x) f g h = g x h
