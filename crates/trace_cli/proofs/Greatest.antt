-- The greatest status of several files, one after another.
use Rattle.std.proofs.Common.{◌≡◌, ℕ, zero, suc, ◌+◌, ◌<◌, ◌≤◌, List, [], ◌∷◌, length, get_or, map, drop, Option, Result, refl, sym, subst, arith}
use Rattle.std.specs.Prelude.{max}
use Rattle.std.proofs.lemmas.List.{drop_all, drop_more}
use Rattle.trace_cli.specs.Status.{HasChecked, HasFileStatus, HasGreatestStatus}

pub at_map : {X : Type 0} (f : X → List ℕ) (xs : List X) (i : ℕ) (d : X)
    → i < length xs
    → f (get_or xs i d) ≡ get_or (map f xs) i []
at_map f [] i d h = absurd (omega (arith, h))
at_map f (x ∷ xs) zero d h = refl
at_map f (x ∷ xs) (suc i) d h = at_map f xs i d (omega (arith, h))

module _ {F E : Type 0} (bytes : F → Option (List ℕ)) (opens : List ℕ → Result F E → Type 0) where
  -- what lies ahead at a place: the greater of the status so far and that of the rest is that of all
  abbrev pub IsAhead : List (List ℕ) → ℕ → ℕ → Type 0
  IsAhead paths place status =
      (others : ℕ)
      → HasGreatestStatus bytes opens (drop place paths) others
      → HasGreatestStatus bytes opens paths (max status others)

  max_zero : (n : ℕ) → max 0 n ≡ n
  max_zero n = omega arith

  pub at_first : (paths : List (List ℕ)) → IsAhead paths 0 0
  at_first paths others rest = subst (HasGreatestStatus bytes opens paths) (sym (max_zero others)) rest

  pub one_further : (paths : List (List ℕ)) (place status own now : ℕ) (path : List ℕ)
      → place < length paths
      → path ≡ get_or paths place []
      → IsAhead paths place status
      → HasFileStatus bytes opens (HasChecked path) path own
      → now ≡ max own status
      → IsAhead paths (place + 1) now
  one_further paths place status own now path h at ahead file is others rest =
      let file' = subst (λ p. HasFileStatus bytes opens (HasChecked p) p own) at file in
      let e : max status (max own others) ≡ max now others = omega (arith, is) in
      subst (HasGreatestStatus bytes opens paths) e
      (ahead (max own others)
      (subst (λ ps. HasGreatestStatus bytes opens ps (max own others)) (sym (drop_more paths place [] h))
      (own, others, file', rest, refl)))

  pub all_done : (paths : List (List ℕ)) (place status : ℕ)
      → length paths ≤ place
      → IsAhead paths place status
      → HasGreatestStatus bytes opens paths status
  all_done paths place status h ahead =
      let e : max status 0 ≡ status = omega arith in
      subst (HasGreatestStatus bytes opens paths) e
      (ahead 0 (subst (λ ps. HasGreatestStatus bytes opens ps 0) (sym (drop_all place paths h)) refl))
