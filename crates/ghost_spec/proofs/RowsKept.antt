-- Rows of small numbers, before and after one more is set.
use Rattle.std.proofs.Common.{◌≡◌, ℕ, ◌+◌, ◌-◌, ◌^◌, ◌<◌, ◌≤◌, ◌&&◌, true, false, List, [], ◌∷◌, drop, length, get_or, Option, Some, None, refl, sym, ap, subst, ◌∙◌, arith}
use Rattle.std.specs.Prelude.{unwrap_or}
use Rattle.std.proofs.lemmas.List.{drop_more}
use Rattle.page_state.specs.declared.row.Row.{Row}
use Rattle.page_state.specs.declared.row.Lent.{Lent}
use Rattle.page_state.specs.Map.{is_within}
use Rattle.page_state.specs.Regions.{is_in_range}
use Rattle.page_state.specs.Rows.{advance_row, HasPageBelow, plain_row}
use Rattle.page_state.specs.Layouts.{Layout, is_memory}
use Rattle.page_state.proofs.Cases.{by_test, by_eq, by_lt}
use Rattle.page_state.proofs.Common.{and-left, and-right, same-tests}
use Rattle.page_state.proofs.Updates.{within_test}
use Rattle.run_list.specs.declared.run.Run.{Run}
use Rattle.run_list.specs.OwnerRows.{row_laws}
use Rattle.run_list.specs.Runs.{run_end, run_map, map_updated, IsCoarsest, AreInReach}
use Rattle.run_list.proofs.Maps.{run_in, run_high, none_low, starts_behind}
use Rattle.ghost_spec.specs.Views.{row_in}
use Rattle.ghost_trees.proofs.Overlaid.{within_means}

pub some-same : {a b : Row} → Some a ≡ Some b → a ≡ b
some-same h = cc

pub none-some : {a : Row} → None ≡ Some a → ⊥
none-some h = cc

-- each row of the map is small
abbrev pub IsSmallMap : (ℕ → Option Row) → Type 0
IsSmallMap m = (p : ℕ) (r : Row) → m p ≡ Some r → (p < 2 ^ 63) × HasPageBelow r 1

-- a row somewhere on a run
on-run : (l : Option Lent) (r : Row) (n i : ℕ)
    → r.lent ≡ l
    → i < n
    → HasPageBelow r n
    → HasPageBelow (advance_row r i) 1
on-run None r n i e h k = rw e tt
on-run (Some l) r n i e h k = let w = rw e at k in rw e (omega (arith, h, w))

-- and the last one tells of all
by-last : (l : Option Lent) (r : Row) (n : ℕ)
    → r.lent ≡ l
    → 0 < n
    → HasPageBelow (advance_row r (n - 1)) 1
    → HasPageBelow r n
by-last None r n e h k = rw e tt
by-last (Some l) r n e h k = let w = rw e at k in rw e (omega (arith, h, w))

pub small-map : (rs : List (Run Row)) → AreInReach HasPageBelow rs → IsSmallMap (run_map advance_row rs)
small-map [] h p v e = absurd (none-some e)
small-map (r ∷ rs) h p v e = by_test (is_in_range r.pages p)
    (λ t. let w = within_means r.pages.first.0 r.pages.count p t in
    let same : advance_row r.value (p - r.pages.first.0) ≡ v = some-same (rw t at e) in
    let pages : run_end r ≤ 2 ^ 63 = h.0.pages in (
      omega (arith, w.1, pages),
      subst (λ (x : Row). HasPageBelow x 1) same
          (on-run r.value.lent r.value r.pages.count (p - r.pages.first.0) refl
          (omega (arith, w.0, w.1)) h.0.values),
    ))
    (λ t. small-map rs h.1 p v (rw t at e))

pub reach-by : (rs : List (Run Row))
    → IsCoarsest advance_row rs
    → IsSmallMap (run_map advance_row rs)
    → AreInReach HasPageBelow rs
reach-by [] c m = tt
reach-by (r ∷ rs) c m =
    let some : 0 < r.pages.count = c.0 in
    let last =
    m (run_end r - 1) (advance_row r.value (run_end r - 1 - r.pages.first.0))
    (run_in advance_row r rs (run_end r - 1) (omega (arith, some)) (omega (arith, some))) in
    let e : run_end r - 1 - r.pages.first.0 ≡ r.pages.count - 1 = omega (arith, some) in
    let value : HasPageBelow (advance_row r.value (r.pages.count - 1)) 1 =
    subst (λ (n : ℕ). HasPageBelow (advance_row r.value n) 1) e last.1 in
    let below = last.0 in (
      record {
        pages = omega (arith, below, some);
        values = by-last r.value.lent r.value r.pages.count refl some value;
      },
      reach-by rs c.2 (λ p v h. by_lt p (run_end r)
          (λ k. absurd
          (none-some (sym (none_low advance_row (run_end r) p rs c.2 (starts_behind advance_row r rs c.1) k) ∙ h)))
          (λ k. m p v (run_high advance_row r rs p k ∙ h))),
    )

-- a row more is set

module _ (rs ss : List (Run Row)) (first count : ℕ) (row : Row)
    (e : run_map advance_row ss ≡ map_updated advance_row (run_map advance_row rs) first count (Some row)) where
  pub reach-set : IsCoarsest advance_row ss
      → AreInReach HasPageBelow rs
      → first + count ≤ 2 ^ 63
      → HasPageBelow row count
      → AreInReach HasPageBelow ss
  reach-set c h low small = reach-by ss c (λ p v k.
      let there : map_updated advance_row (run_map advance_row rs) first count (Some row) p ≡ Some v =
      sym (ap (λ (m : ℕ → Option Row). m p) e) ∙ k in
      by_test (is_within first count p)
      (λ t. let w = within_means first count p t in
      let same : advance_row row (p - first) ≡ v = some-same (rw t at there) in (
        omega (arith, w.0, w.1, low),
        subst (λ (x : Row). HasPageBelow x 1) same
            (on-run row.lent row count (p - first) refl (omega (arith, w.0, w.1)) small),
      ))
      (λ t. small-map rs h p v (rw t at there)))

pub row-set : (rs ss : List (Run Row)) (frame : ℕ) (row : Row)
    → run_map advance_row ss ≡ map_updated advance_row (run_map advance_row rs) frame 1 (Some row)
    → (f : ℕ)
    → row_in ss f
    ≡ elim (is_in_range (record { first = record { 0 = frame }; count = 1 }) f) [ true ↦ row | false ↦ row_in rs f ]
row-set rs ss frame row e f = ap (λ (m : ℕ → Option Row). unwrap_or (m f) plain_row) e ∙ by_test (is_within frame 1 f)
    (λ t. let w = within_means frame 1 f t in
    let none : f - frame ≡ 0 = omega (arith, w.0, w.1) in
    rw t (ap (advance_row row) none ∙ row_laws.none row))
    (λ t. rw t refl)

-- rows put together from the last one on
pub copied-more : (all rs ss : List (Run Row)) (i : ℕ) (d : Run Row)
    → 0 < i
    → i ≤ length all
    → run_map advance_row rs ≡ run_map advance_row (drop i all)
    → run_map advance_row ss
    ≡ map_updated advance_row (run_map advance_row rs) (get_or all (i - 1) d).pages.first.0
    (get_or all (i - 1) d).pages.count (Some (get_or all (i - 1) d).value)
    → run_map advance_row ss ≡ run_map advance_row (drop (i - 1) all)
copied-more all rs ss i d some within same h =
    let r : Run Row = get_or all (i - 1) d in
    let next : i - 1 + 1 ≡ i = omega (arith, some) in
    let first : drop (i - 1) all ≡ r ∷ drop i all =
    drop_more all (i - 1) d (omega (arith, some, within)) ∙ ap (λ (j : ℕ). r ∷ drop j all) next in
    h ∙ ap (λ (m : ℕ → Option Row). map_updated advance_row m r.pages.first.0 r.pages.count (Some r.value)) same
    ∙ sym (ap (run_map advance_row) first)

-- rows that are found again, frame by frame

module _ (l : Layout) (frame : ℕ) where
  -- of a frame that isn't memory
  pub row-other : {X : Type 0} (x y : X)
      → is_memory l frame ≡ false
      → (f : ℕ)
      → y ≡ (elim (is_memory l f && is_within frame 1 f) [ true ↦ x | false ↦ y ])
  row-other x y none f = by_test (is_memory l f && is_within frame 1 f)
      (λ t. let w = within_means frame 1 f (and-right (is_memory l f) (is_within frame 1 f) t) in
      let same : f ≡ frame = omega (arith, w.0, w.1) in
      let bad : false ≡ true =
      sym none ∙ ap (is_memory l) (sym same) ∙ and-left (is_memory l f) (is_within frame 1 f) t in
      cc)
      (λ t. rw t refl)

  -- and of one that is
  pub row-one : {X : Type 0} (x y : X)
      → is_memory l frame ≡ true
      → (f : ℕ)
      → ◌≡◌ {A = X} (elim (is_within frame 1 f) [ true ↦ x | false ↦ y ])
      (elim (is_memory l f && is_within frame 1 f) [ true ↦ x | false ↦ y ])
  row-one x y memory f = by_test (is_within frame 1 f)
      (λ t. let w = within_means frame 1 f t in
      let same : f ≡ frame = omega (arith, w.0, w.1) in
      let both : is_memory l f ≡ true = ap (is_memory l) same ∙ memory in
      rw (t, both) refl)
      (λ t. rw t (by_test (is_memory l f) (λ u. rw u refl) (λ u. rw u refl)))

within-more : (first i f : ℕ) → (f ≡ first + i → ⊥) → is_within first (i + 1) f ≡ is_within first i f
within-more first i f other = same-tests (is_within first (i + 1) f) (is_within first i f)
    (λ h. let w = within_means first (i + 1) f h in within_test first i f w.0 (omega (arith, w.1, other)))
    (λ h. let w = within_means first i f h in within_test first (i + 1) f w.0 (omega (arith, w.1)))

within-one : (first i f : ℕ) → (f ≡ first + i → ⊥) → is_within (first + i) 1 f ≡ false
within-one first i f other = by_test (is_within (first + i) 1 f)
    (λ t. let w = within_means (first + i) 1 f t in absurd (other (omega (arith, w.0, w.1))))
    (λ t. t)

-- one frame more of a range
pub rows-more : {X : Type 0} (l : Layout) (first i : ℕ) (found : ℕ → X) (new now old : ℕ → X)
    → ((f : ℕ)
    → new f ≡ (elim (is_memory l f && is_within (first + i) 1 f) [ true ↦ found (first + i) | false ↦ now f ]))
    → ((f : ℕ) → now f ≡ (elim (is_memory l f && is_within first i f) [ true ↦ found f | false ↦ old f ]))
    → (f : ℕ) → new f ≡ (elim (is_memory l f && is_within first (i + 1) f) [ true ↦ found f | false ↦ old f ])
rows-more {X} l first i found new now old h k f =
    by_eq f (first + i)
    (λ e. let a : is_within (first + i) 1 f ≡ true =
    within_test (first + i) 1 f (omega (arith, e)) (omega (arith, e)) in
    let b : is_within first (i + 1) f ≡ true = within_test first (i + 1) f (omega (arith, e)) (omega (arith, e)) in
    let c : is_within first i f ≡ false =
    by_test (is_within first i f) (λ t. let w = within_means first i f t in absurd (omega (arith, e, w.1)))
    (λ t. t) in
    by_test (is_memory l f)
    (λ t. let x : new f ≡ found (first + i) = rw (t, a) at (h f) in rw (t, b) (x ∙ ap found (sym e)))
    (λ t. let x : new f ≡ now f = rw t at (h f) in let y : now f ≡ old f = rw t at (k f) in rw t (x ∙ y)))
    (λ n. let a : is_within (first + i) 1 f ≡ false = within-one first i f n in
    let b : is_within first (i + 1) f ≡ is_within first i f = within-more first i f n in
    by_test (is_memory l f)
    (λ t. let x : new f ≡ now f = rw (t, a) at (h f) in let y = rw t at (k f) in rw (t, b) (x ∙ y))
    (λ t. let x : new f ≡ now f = rw t at (h f) in let y : now f ≡ old f = rw t at (k f) in rw t (x ∙ y)))
