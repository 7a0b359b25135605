-- The first page below the input pages' limit, by runs that are cut there.
use Rattle.std.proofs.Common.{◌≡◌, ℕ, ◌+◌, ◌-◌, ◌<◌, ◌≤◌, ◌&&◌, ◌||◌, Bool, true, false, min, List, [], ◌∷◌, Option, Some, None, refl, sym, ap, ◌∙◌, arith}
use Rattle.std.specs.Prelude.{nat_lt, if◌then◌else◌}
use Rattle.std.specs.List.{list_any}
use Rattle.std.specs.Option.{option_or}
use Rattle.std.proofs.lemmas.Bool.Decides.{nat_tests}
use Rattle.descriptor.specs.declared.State.{State}
use Rattle.page_state.specs.declared.entry.PageRange.{PageRange}
use Rattle.page_state.specs.declared.entry.Run.{Run}
use Rattle.page_state.specs.declared.entry.Target.{Target}
use Rattle.page_state.specs.declared.entry.Target.TheVariants.{Malformed, Annotated, Leaf}
use Rattle.page_state.specs.declared.row.Row.{Row}
use Rattle.page_state.specs.EntryTests.{state_eq}
use Rattle.page_state.specs.Geometries.{pages_below}
use Rattle.page_state.specs.Layouts.{Layout}
use Rattle.page_state.specs.Map.{is_within}
use Rattle.page_state.specs.Runs.{map_of, run_end, PrecedesFirst, IsCoarsest}
use Rattle.page_state.proofs.Cases.{by_test, by_lt}
use Rattle.page_state.proofs.Common.{not-holds}
use Rattle.page_state.proofs.Runs.{StartsFrom}
use Rattle.page_state.proofs.Updates.{within_test}
use Rattle.reference_model.specs.model.Owner.{page_of}
use Rattle.ghost_spec.specs.Found.{target_page, run_page, first_page_in}
use Rattle.ghost_spec.proofs.FoundPages.{page-is, page-past, page-none}
use Rattle.ghost_trees.proofs.Overlaid.{within_means}
use Rattle.ghost_rows.specs.RowsLaid.{loan_at, low_page, is_leaf_in, maps_in}

some-same : {a b : ℕ} → Some a ≡ Some b → a ≡ b
some-same h = cc

less-true : (p limit : ℕ) → p < limit → nat_lt p limit ≡ true
less-true p limit h = grind (arith, nat_tests)

less-false : (p limit : ℕ) → limit ≤ p → nat_lt p limit ≡ false
less-false p limit h = grind (arith, nat_tests)

true-less : (p limit : ℕ) → nat_lt p limit ≡ true → p < limit
true-less p limit h = grind (arith, nat_tests)

false-less : (p limit : ℕ) → nat_lt p limit ≡ false → limit ≤ p
false-less p limit h = grind (arith, nat_tests)

behind : (r : Run) (rs : List Run) → PrecedesFirst r rs → StartsFrom (run_end r) rs
behind r [] h = tt
behind r (n ∷ rs) h = h.before

module _ (limit : ℕ) where
  -- a page, where it is below the limit
  abbrev cut : Option ℕ → Option ℕ
  cut None = None
  cut (Some p) = if nat_lt p limit then Some p else None

  leaf-cut : (a n p f : ℕ)
      → ◌≡◌ {A = Option ℕ} (if is_within a (min n (limit - p)) f then Some (p + (f - a)) else None)
      (cut (if is_within a n f then Some (p + (f - a)) else None))
  leaf-cut a n p f = by_test (is_within a n f)
      (λ t. let w = within_means a n f t in
      by_lt (p + (f - a)) limit
      (λ h. rw (
        t,
        within_test a (min n (limit - p)) f w.0 (omega (arith, w.0, w.1, h)),
        less-true (p + (f - a)) limit h,
      ) refl)
      (λ h. rw (
        t,
        not-holds (is_within a (min n (limit - p)) f)
            (λ k. let x = within_means a (min n (limit - p)) f k in absurd (omega (arith, x.0, x.1, h))),
        less-false (p + (f - a)) limit h,
      ) refl))
      (λ t. rw (
        t,
        not-holds (is_within a (min n (limit - p)) f)
            (λ k. let x = within_means a (min n (limit - p)) f k in
            let c : true ≡ false = sym (within_test a n f x.0 (omega (arith, x.1))) ∙ t in
            cc),
      ) refl)

  module _ (s : State) (f : ℕ) where
    target-cut : (pages : PageRange) (t : Target)
        → target_page f s (record pages { count = min pages.count (limit - pages.first.0) }) t
        ≡ cut (target_page f s pages t)
    target-cut pages Malformed = refl
    target-cut pages (Annotated o) = refl
    target-cut pages (Leaf frame prot kind state) = by_test (state_eq state s)
        (λ t. rw t (leaf-cut frame.0 pages.count pages.first.0 f))
        (λ t. rw t refl)

    -- pages of a run
    target-high : (pages : PageRange) (t : Target) → limit ≤ pages.first.0 → cut (target_page f s pages t) ≡ None
    target-high pages Malformed h = refl
    target-high pages (Annotated o) h = refl
    target-high pages (Leaf frame prot kind state) h = by_test (state_eq state s && is_within frame.0 pages.count f)
        (λ t. rw (t, less-false (pages.first.0 + (f - frame.0)) limit (omega (arith, h))) refl)
        (λ t. rw t refl)

    target-in : (pages : PageRange) (t : Target) (p : ℕ)
        → target_page f s pages t ≡ Some p
        → p < pages.first.0 + pages.count
    target-in pages Malformed p h = cc
    target-in pages (Annotated o) p h = cc
    target-in pages (Leaf frame prot kind state) p h = by_test (state_eq state s)
        (λ u. by_test (is_within frame.0 pages.count f)
        (λ t. let w = within_means frame.0 pages.count f t in
        let some : Some (pages.first.0 + (f - frame.0)) ≡ Some p = rw (u, t) at h in
        let page : pages.first.0 + (f - frame.0) ≡ p = some-same some in
        omega (arith, page, w.0, w.1))
        (λ t. let none : ◌≡◌ {A = Option ℕ} None (Some p) = rw (u, t) at h in cc))
        (λ u. let none : ◌≡◌ {A = Option ℕ} None (Some p) = rw u at h in cc)

    none-either : (o next : Option ℕ)
        → cut o ≡ None
        → cut next ≡ None
        → cut (elim o [ Some page ↦ Some page | None ↦ next ]) ≡ None
    none-either None next h k = k
    none-either (Some p) next h k = h

    -- runs from the limit on have no page below it
    high-none : (rs : List Run) → IsCoarsest rs → StartsFrom limit rs → cut (first_page_in f s rs) ≡ None
    high-none [] c h = refl
    high-none (r ∷ rs) c h =
        none-either (run_page f s r) (first_page_in f s rs) (target-high r.pages r.target h)
        (high-none rs c.2 (higher rs (behind r rs c.1)))
      where
        higher : (ss : List Run) → StartsFrom (run_end r) ss → StartsFrom limit ss
        higher [] k = tt
        higher (n ∷ ss) k = omega (arith, h, k)

    cut-or : (o next : Option ℕ)
        → ((p : ℕ) → o ≡ Some p → limit ≤ p → cut next ≡ None)
        → option_or (cut o) (cut next) ≡ cut (elim o [ Some page ↦ Some page | None ↦ next ])
    cut-or None next h = refl
    cut-or (Some p) next h = by_test (nat_lt p limit)
        (λ t. rw t refl)
        (λ t. rw t (h p refl (false-less p limit t)))

    low-is : (rs : List Run) → IsCoarsest rs → low_page limit s f rs ≡ cut (first_page_in f s rs)
    low-is [] c = refl
    low-is (r ∷ rs) c =
        ap (λ (o : Option ℕ). option_or o (low_page limit s f rs)) (target-cut r.pages r.target)
        ∙ ap (λ (o : Option ℕ). option_or (cut (run_page f s r)) o) (low-is rs c.2)
        ∙ cut-or (run_page f s r) (first_page_in f s rs)
        (λ p e h. high-none rs c.2 (higher rs (behind r rs c.1) p (target-in r.pages r.target p e) h))
      where
        higher : (ss : List Run) → StartsFrom (run_end r) ss → (p : ℕ) → p < run_end r → limit ≤ p → StartsFrom limit ss
        higher [] k p i h = tt
        higher (n ∷ ss) k p i h = omega (arith, h, i, k)

module _ (l : Layout) (s : State) (f : ℕ) (rs : List Run) (c : IsCoarsest rs) where
  page-cut : (o : Option ℕ) → first_page_in f s rs ≡ o → page_of l (map_of rs) s f ≡ cut (pages_below l.depth) o
  page-cut None e = page-none f s l rs e
  page-cut (Some p) e = by_test (nat_lt p (pages_below l.depth))
      (λ t. page-is f s l rs p c e (true-less p (pages_below l.depth) t) ∙ rw t refl)
      (λ t. page-past f s l rs p c e (false-less p (pages_below l.depth) t) ∙ rw t refl)

  pub low_page-is : low_page (pages_below l.depth) s f rs ≡ page_of l (map_of rs) s f
  low_page-is = low-is (pages_below l.depth) s f rs c ∙ sym (page-cut (first_page_in f s rs) refl)

-- where no run maps frames in the state no frame has a page

either-not : (a b : Bool) → (a || b) ≡ false → (a ≡ false) × (b ≡ false)
either-not true b h = cc
either-not false b h = (refl, h)

module _ (s : State) (f : ℕ) where
  leaf-none : (pages : PageRange) (t : Target) → is_leaf_in s t ≡ false → target_page f s pages t ≡ None
  leaf-none pages Malformed h = refl
  leaf-none pages (Annotated o) h = refl
  leaf-none pages (Leaf frame prot kind state) h = rw h refl

  first-none : (rs : List Run) → list_any (maps_in s) rs ≡ false → first_page_in f s rs ≡ None
  first-none [] h = refl
  first-none (r ∷ rs) h =
      let both = either-not (maps_in s r) (list_any (maps_in s) rs) h in
      ap (λ (o : Option ℕ). elim o [ Some page ↦ Some page | None ↦ first_page_in f s rs ])
      (leaf-none r.pages r.target both.0)
      ∙ first-none rs both.1

  pub none-lent : (l : Layout) (number : ℕ) (rs : List Run) (row : Option Row)
      → list_any (maps_in s) rs ≡ false
      → row ≡ option_or (loan_at number (page_of l (map_of rs) s f)) row
  none-lent l number rs row h =
      ap (λ (o : Option ℕ). option_or (loan_at number o) row) (sym (page-none f s l rs (first-none rs h)))
