-- Tests and places of lines as code has them.
use Rattle.std.proofs.Common.{◌≡◌, refl, ◌+◌, ◌∙◌, ap, Bool, ◌||◌, not, nat_lt, List, [], ◌∷◌, length, map, cond, Some, None}
use Rattle.std.specs.List.{list_any, position, position_or_len, prefix_len}
use Rattle.std.proofs.lemmas.List.{length-map}

module _ {X Y : Type 0} (h : X → Y) where
  pub list_any-mapped : (p : Y → Bool) (xs : List X) → list_any p (map h xs) ≡ list_any (λ x. p (h x)) xs
  list_any-mapped p [] = refl
  list_any-mapped p (x ∷ xs) = ap (λ b. p (h x) || b) (list_any-mapped p xs)

  prefix_len-mapped : (p : Y → Bool) (xs : List X) → prefix_len p (map h xs) ≡ prefix_len (λ x. p (h x)) xs
  prefix_len-mapped p [] = refl
  prefix_len-mapped p (x ∷ xs) = ap (λ n. cond (p (h x)) (1 + n) 0) (prefix_len-mapped p xs)

  pub position-mapped : (p : Y → Bool) (xs : List X) → position p (map h xs) ≡ position (λ x. p (h x)) xs
  position-mapped p xs =
      ap (λ n. cond (nat_lt n (length (map h xs))) (Some n) None) (prefix_len-mapped (λ y. not (p y)) xs)
      ∙ ap (λ n. cond (nat_lt (position_or_len (λ x. p (h x)) xs) n) (Some (position_or_len (λ x. p (h x)) xs)) None)
      (length-map xs h)
