-- Kept rows that the lists tell.
use Rattle.std.proofs.Common.{◌≡◌, ℕ, zero, suc, ◌+◌, ◌-◌, ◌<◌, ◌≤◌, Bool, true, false, List, [], ◌∷◌, length, get_or, Option, Some, None, refl, sym, ap, subst, ◌∙◌, arith}
use Rattle.std.proofs.lemmas.List.{get_or_default}
use Rattle.std.specs.Prelude.{All, is_some}
use Rattle.page_state.specs.declared.row.Row.{Row}
use Rattle.page_state.specs.Rows.{advance_row}
use Rattle.page_state.specs.Regions.{is_in_range}
use Rattle.page_state.proofs.Cases.{by_test, by_lt}
use Rattle.run_list.specs.declared.run.Run.{Run}
use Rattle.run_list.specs.OwnerRows.{row_laws}
use Rattle.run_list.specs.Runs.{run_end, run_map, value_on, IsCoarsest}
use Rattle.run_list.proofs.Maps.{none_low, run_high, run_in, starts_behind}
use Rattle.ghost_trees.proofs.Overlaid.{within_means}
use Rattle.ghost_rows.specs.declared.rows.pieces.Lists.{Lists}
use Rattle.ghost_rows.specs.ListedRows.{told, IsListedAs}

-- one piece more of a run, whose frames are told from one on
pub told-more : (x : Lists) (r : Run Row) (from low high : ℕ)
    → r.pages.first.0 ≤ low
    → ((f : ℕ) → low ≤ f → f < high → told x f ≡ advance_row (told x low) (f - low))
    → told x low ≡ advance_row r.value (low - r.pages.first.0)
    → ((f : ℕ) → from ≤ f → f < low → told x f ≡ value_on advance_row r f)
    → (f : ℕ) → from ≤ f → f < high → told x f ≡ value_on advance_row r f
told-more x r from low high a on here before f b c = by_lt f low
    (λ h. before f b h)
    (λ h. let offset : low - r.pages.first.0 + (f - low) ≡ f - r.pages.first.0 = omega (arith, a, h) in
    on f h c ∙ ap (λ (v : Row). advance_row v (f - low)) here ∙ row_laws.more r.value (low - r.pages.first.0) (f - low)
    ∙ ap (λ (n : ℕ). advance_row r.value n) offset)

-- the first piece of a run
pub told-first : (x : Lists) (r : Run Row) (high : ℕ)
    → ((f : ℕ) → r.pages.first.0 ≤ f → f < high → told x f ≡ advance_row (told x r.pages.first.0) (f - r.pages.first.0))
    → told x r.pages.first.0 ≡ r.value → (f : ℕ) → r.pages.first.0 ≤ f → f < high → told x f ≡ value_on advance_row r f
told-first x r high on here f a b = on f a b ∙ ap (λ (v : Row). advance_row v (f - r.pages.first.0)) here

some-of : (a b : Row) → Some a ≡ Some b → a ≡ b
some-of a b h = cc

-- what is told of each run is told of each frame that has a row
pub told-map : (x : Lists) (rs : List (Run Row))
    → All (IsListedAs x) rs
    → (f : ℕ)
    → is_some (run_map advance_row rs f) ≡ true
    → run_map advance_row rs f ≡ Some (told x f)
told-map x [] h f some = cc
told-map x (r ∷ rs) h f some = by_test (is_in_range r.pages f)
    (λ t. let w = within_means r.pages.first.0 r.pages.count f t in
    rw t (ap Some (sym (h 0 r (omega arith) f w.0 w.1))))
    (λ t. let there : is_some (run_map advance_row rs f) ≡ true = rw t at some in
    rw t (told-map x rs (λ i d less. h (suc i) d (omega (arith, less))) f there))

-- and of each run what is told of each frame
pub map-told : (x : Lists) (rs : List (Run Row))
    → IsCoarsest advance_row rs
    → ((f : ℕ) → is_some (run_map advance_row rs f) ≡ true → run_map advance_row rs f ≡ Some (told x f))
    → All (IsListedAs x) rs
map-told x [] c h i d less = absurd (omega (arith, less))
map-told x (r ∷ rs) c h zero d less = λ f a b.
    let here : run_map advance_row (r ∷ rs) f ≡ Some (value_on advance_row r f) = run_in advance_row r rs f a b in
    some-of (told x f) (value_on advance_row r f) (sym (h f (ap is_some here)) ∙ here)
map-told x (r ∷ rs) c h (suc i) d less = map-told x rs c.2 behind i d (omega (arith, less))
  where
    none : (o : Option Row) → o ≡ None → is_some o ≡ true → ⊥
    none o e t = cc

    behind : (f : ℕ) → is_some (run_map advance_row rs f) ≡ true → run_map advance_row rs f ≡ Some (told x f)
    behind f some = by_lt f (run_end r)
        (λ k. absurd
        (none (run_map advance_row rs f)
        (none_low advance_row (run_end r) f rs c.2 (starts_behind advance_row r rs c.1) k) some))
        (λ k. let there : run_map advance_row (r ∷ rs) f ≡ run_map advance_row rs f = run_high advance_row r rs f k in
        sym there ∙ h f (ap is_some there ∙ some))

-- what is told of the runs before a place, and of one more
pub told-one-more : (x : Lists) (rs : List (Run Row)) (i : ℕ) (e : Run Row)
    → i < length rs
    → ((j : ℕ) (d : Run Row) → j < i → IsListedAs x (get_or rs j d))
    → IsListedAs x (get_or rs i e)
    → (j : ℕ) (d : Run Row)
    → j < i + 1
    → IsListedAs x (get_or rs j d)
told-one-more x rs i e within before here j d less = by_lt j i
    (λ h. before j d h)
    (λ h. let same : i ≡ j = omega (arith, h, less) in
    subst (λ (k : ℕ). IsListedAs x (get_or rs k d)) same (subst (IsListedAs x) (get_or_default rs i e d within) here))

-- a run ends before the next one begins, or where it does
ends-first : (rs : List (Run Row)) (i : ℕ) (d e : Run Row)
    → IsCoarsest advance_row rs
    → suc i < length rs
    → run_end (get_or rs i d) ≤ (get_or rs (suc i) e).pages.first.0
ends-first [] i d e c less = absurd (omega (arith, less))
ends-first (r ∷ []) i d e c less = absurd (omega (arith, less))
ends-first (r ∷ (n ∷ rs)) zero d e c less = c.1.before
ends-first (r ∷ (n ∷ rs)) (suc i) d e c less = ends-first (n ∷ rs) i d e c.2 (omega (arith, less))

pub before-next : (rs : List (Run Row)) (i : ℕ) (d e : Run Row)
    → IsCoarsest advance_row rs
    → i + 1 < length rs
    → run_end (get_or rs i d) ≤ (get_or rs (i + 1) e).pages.first.0
before-next rs i d e c less = let next : suc i ≡ i + 1 = omega arith in
    subst (λ (k : ℕ). run_end (get_or rs i d) ≤ (get_or rs k e).pages.first.0) next
    (ends-first rs i d e c (omega (arith, less)))

-- memory frames alone have a row, and this is the one told
pub rows-from : (memory : Bool) (o : Option Row) (row other : Row)
    → is_some o ≡ memory
    → (is_some o ≡ true → o ≡ Some row)
    → (memory ≡ true → row ≡ other)
    → o ≡ (elim memory [ true ↦ Some other | false ↦ None ])
rows-from true o row other frames told same = told frames ∙ ap Some (same refl)
rows-from false None row other frames told same = refl
rows-from false (Some r) row other frames told same = cc

pub told-from : (memory : Bool) (o : Option Row) (row other : Row)
    → memory ≡ true
    → o ≡ (elim memory [ true ↦ Some other | false ↦ None ])
    → (memory ≡ true → row ≡ other)
    → o ≡ Some row
told-from true o row other t e same = e ∙ ap Some (sym (same t))
told-from false o row other t e same = cc
