-- A member of a list that is apart from each later one.
use Rattle.std.proofs.Common.{◌≡◌, ℕ, ◌+◌, ◌-◌, ◌<◌, ◌↔◌, sym, ap, subst, ◌∙◌, arith, List, length, take, drop, All, slice_index_or, length-drop}
use Rattle.std.proofs.lemmas.Grind.{common_steps}
use Rattle.std.proofs.lemmas.List.{get_or-drop, get_or_default}
use Rattle.ghost_trees.specs.Apart.{IsApartFromLater}

module _ {X : Type 0} (R : X → X → Type 0) (xs : List X) (i : ℕ) (x : X) (within : i < length xs) where
  -- just where it is apart from those after it
  later : All (R (slice_index_or xs i x)) (drop (i + 1) xs) ↔ IsApartFromLater R xs i
  later = (
    λ all j d below inside.
        let far : slice_index_or (drop (i + 1) xs) (j - (i + 1)) d ≡ slice_index_or xs j d =
        get_or-drop (i + 1) xs (j - (i + 1)) d ∙ ap (λ n. slice_index_or xs n d) (omega arith) in
        let whole : R (slice_index_or xs i x) (slice_index_or (drop (i + 1) xs) (j - (i + 1)) d) =
        all (j - (i + 1)) d (grind (arith, length-drop)) in
        subst (λ y. R (slice_index_or xs i d) y) far
        (subst (λ y. R y (slice_index_or (drop (i + 1) xs) (j - (i + 1)) d))
        (get_or_default xs i x d within) whole),
    λ f k d inside.
        let whole : R (slice_index_or xs i d) (slice_index_or xs (i + 1 + k) d) =
        f (i + 1 + k) d (omega arith) (grind (arith, length-drop)) in
        subst (λ y. R y (slice_index_or (drop (i + 1) xs) k d)) (get_or_default xs i d x within)
        (subst (λ y. R (slice_index_or xs i d) y) (sym (get_or-drop (i + 1) xs k d)) whole),
  )

  -- the same as code reads it: the member at the index, and the slice from the next index on
  pub later_slice : x ≡ slice_index_or xs i x
      → All (R x) (take (length xs - (i + 1)) (drop (i + 1) xs)) ↔ IsApartFromLater R xs i
  later_slice is =
      let whole : take (length xs - (i + 1)) (drop (i + 1) xs) ≡ drop (i + 1) xs = grind (arith, common_steps) in
      let e : All (R x) (drop (i + 1) xs) ↔ IsApartFromLater R xs i =
      subst (λ y. All (R y) (drop (i + 1) xs) ↔ IsApartFromLater R xs i) (sym is) later in
      subst (λ ys. All (R x) ys ↔ IsApartFromLater R xs i) (sym whole) e
