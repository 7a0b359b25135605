-- Lists that are built beside others, item by item.
use Rattle.std.proofs.Common.{◌≡◌, ℕ, suc, ◌+◌, ◌<◌, List, [], ◌∷◌, ◌++◌, All, length, map, take, get_or, ap, sym, ◌∙◌, arith}
use Rattle.std.proofs.lemmas.List.{map_push}
use Rattle.std.proofs.lemmas.List.Elements.{All-append, All-cons, All-nil}
use Rattle.std.proofs.Math.Seq.{take-suc}
use Rattle.page_state.proofs.Common.{same2}

module _ {X Z : Type 0} (g : X → Z) (xs : List X) (i : ℕ) (x : X) (less : i < length xs) (at : x ≡ get_or xs i x) where
  -- what the next item gives, behind what those before it give
  pub given_next : (zs : List Z) (z : Z) → zs ≡ map g (take i xs) → z ≡ g x → zs ++ z ∷ [] ≡ map g (take (i + 1) xs)
  given_next zs z same one =
      let next : i + 1 ≡ suc i = omega arith in
      same2 (λ (ys : List Z) (y : Z). ys ++ y ∷ []) same (one ∙ ap g at) ∙ sym (map_push g (take i xs) (get_or xs i x))
      ∙ ap (map g) (sym (take-suc xs i x less)) ∙ ap (λ (n : ℕ). map g (take n xs)) (sym next)

  -- and so where the built list is seen by another function
  pub mapped_next : {Y : Type 0} (f : Y → Z) (ys : List Y) (y : Y)
      → map f ys ≡ map g (take i xs)
      → f y ≡ g x
      → map f (ys ++ y ∷ []) ≡ map g (take (i + 1) xs)
  mapped_next f ys y same one = map_push f ys y ∙ given_next (map f ys) (f y) same one

-- what holds of each of a list and of one more holds of each with it behind
pub all_pushed : {X : Type 0} (P : X → Type 0) (xs : List X) (x : X) → All P xs → P x → All P (xs ++ x ∷ [])
all_pushed P xs x all one = All-append P xs (x ∷ []) all (All-cons P x [] one (All-nil P))
