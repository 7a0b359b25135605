-- Lists of frames, and their use.
use Rattle.std.proofs.Common.{◌≡◌, ℕ, Bool, true, false, List, [], ◌∷◌, ◌++◌, Option, Some, refl, sym, ap, ◌∙◌}
use Rattle.std.specs.Prelude.{◌||◌, ◌==◌}
use Rattle.std.specs.List.{list_any}
use Rattle.std.specs.List.Sorted.{IsPermutation}
use Rattle.std.proofs.lemmas.List.Sorted.{list_any-IsPermutation}
use Rattle.std.specs.Option.{option_or}
use Rattle.page_state.specs.declared.row.Row.{Row}
use Rattle.page_state.specs.declared.row.Usage.{Usage}
use Rattle.reference_model.specs.model.Owner.{is_frame, is_free}
use Rattle.ghost_rows.specs.RowsLaid.{used_if}

or_none : (b : Bool) → b || false ≡ b
or_none true = refl
or_none false = refl

or_after : (a b c : Bool) → a || (b || c) ≡ (a || b) || c
or_after true b c = refl
or_after false b c = refl

pub free_push : (xs : List ℕ) (g f : ℕ) → is_free (xs ++ g ∷ []) f ≡ is_free xs f || is_frame f (Some g)
free_push [] g f = or_none (g == f)
free_push (x ∷ xs) g f = ap (λ b. x == f || b) (free_push xs g f) ∙ or_after (x == f) (is_free xs f) (g == f)

free_any : (xs : List ℕ) (f : ℕ) → is_free xs f ≡ list_any (λ g. g == f) xs
free_any [] f = refl
free_any (x ∷ xs) f = ap (λ b. x == f || b) (free_any xs f)

pub free_sorted : (xs ys : List ℕ) (f : ℕ) → IsPermutation xs ys → is_free ys f ≡ is_free xs f
free_sorted xs ys f h = free_any ys f ∙ sym (list_any-IsPermutation (λ g. g == f) xs ys h) ∙ sym (free_any xs f)

-- a use by three tests, one after the other
pub used_three : (a b c : Bool) (u : Usage) (o : Option Row)
    → option_or (used_if a u) (option_or (used_if (b || c) u) o) ≡ option_or (used_if (a || b || c) u) o
used_three true b c u o = refl
used_three false true c u o = refl
used_three false false c u o = refl
