-- The first run of a coarsest list that has a frame maps it at the first page that does.
use Rattle.std.proofs.Common.{◌≡◌, ℕ, zero, suc, ◌+◌, ◌-◌, ◌<◌, ◌≤◌, ◌&&◌, ◌==◌, Bool, true, false, List, [], ◌∷◌, Option, Some, None, refl, sym, ap, ◌∙◌, arith, inl, inr}
use Rattle.std.specs.Prelude.{◌⊎◌}
use Rattle.descriptor.specs.declared.State.{State}
use Rattle.page_state.specs.declared.entry.Entry.TheVariants.{Unmapped}
use Rattle.page_state.specs.declared.entry.PageRange.{PageRange}
use Rattle.page_state.specs.declared.entry.Run.{Run}
use Rattle.page_state.specs.declared.entry.Target.{Target}
use Rattle.page_state.specs.declared.entry.Target.TheVariants.{Malformed, Annotated, Leaf}
use Rattle.page_state.specs.Entries.{advance, entry_of_target}
use Rattle.page_state.specs.EntryTests.{state_eq, maps_frame}
use Rattle.page_state.specs.Geometries.{pages_below}
use Rattle.page_state.specs.Layouts.{Layout}
use Rattle.page_state.specs.Map.{is_within}
use Rattle.page_state.specs.Regions.{is_in_range}
use Rattle.page_state.specs.Runs.{map_of, entry_on, run_end, PrecedesFirst, IsCoarsest}
use Rattle.page_state.specs.Search.{first_from}
use Rattle.page_state.proofs.Cases.{by_test, by_eq, by_lt}
use Rattle.page_state.proofs.Common.{and-both, eq-same, eq-made, not-holds}
use Rattle.page_state.proofs.Runs.{StartsFrom, low, map_of-first, map_of-behind}
use Rattle.page_state.proofs.Updates.{within_test}
use Rattle.reference_model.specs.model.Owner.{page_of}
use Rattle.ghost_spec.specs.Found.{target_page, run_page, first_page_in}
use Rattle.ghost_trees.proofs.Overlaid.{within_means}

-- searches

pub first-is : (from n k : ℕ) (test : ℕ → Bool)
    → from ≤ k
    → k < from + n
    → test k ≡ true
    → ((j : ℕ) → j < k → test j ≡ false)
    → first_from from n test ≡ Some k
first-is from zero k test a b t u = absurd (omega arith)
first-is from (suc n) k test a b t u =
    by_eq from k
    (λ e. let here : test from ≡ true = ap test e ∙ t in rw (first_from, here) (ap Some e))
    (λ e. let less : from < k = omega (arith, a, e) in
    rw (first_from, u from less) (first-is (suc from) n k test (omega arith) (omega arith) t u))

pub first-none : (from n : ℕ) (test : ℕ → Bool)
    → ((j : ℕ) → j < from + n → test j ≡ false)
    → first_from from n test ≡ None
first-none from zero test u = refl
first-none from (suc n) test u =
    rw (first_from, u from (omega arith)) (first-none (suc from) n test (λ j h. u j (omega arith)))

none-both : (o next : Option ℕ)
    → ◌≡◌ {A = Option ℕ} (elim o [ Some page ↦ Some page | None ↦ next ]) None
    → (o ≡ None) × (next ≡ None)
none-both None next h = (refl, h)
none-both (Some page) next h = cc

some-either : (o next : Option ℕ) (p : ℕ)
    → ◌≡◌ {A = Option ℕ} (elim o [ Some page ↦ Some page | None ↦ next ]) (Some p)
    → (o ≡ Some p) ⊎ ((o ≡ None) × (next ≡ Some p))
some-either None next p h = inr (refl, h)
some-either (Some page) next p h = inl h

some-same : {a b : ℕ} → Some a ≡ Some b → a ≡ b
some-same h = cc

none-some : {a : ℕ} → None ≡ Some a → ⊥
none-some h = cc

starts_behind : (r : Run) (rs : List Run) → PrecedesFirst r rs → StartsFrom (run_end r) rs
starts_behind r [] h = tt
starts_behind r (n ∷ rs) h = h.before

module _ (f : ℕ) (s : State) where
  -- the page of a target, where it maps the frame
  target-inside : (pages : PageRange) (t : Target) (q : ℕ)
      → pages.first.0 ≤ q
      → q < pages.first.0 + pages.count
      → maps_frame f s (advance (entry_of_target t) (q - pages.first.0)) ≡ true
      → target_page f s pages t ≡ Some q
  target-inside pages Malformed q a b h = cc
  target-inside pages (Annotated o) q a b h = cc
  target-inside pages (Leaf frame prot kind state) q a b h =
      let e = and-both (frame.0 + (q - pages.first.0) == f) (state_eq state s) h in
      let same : frame.0 + (q - pages.first.0) ≡ f = eq-same (frame.0 + (q - pages.first.0)) f e.0 in
      let page : pages.first.0 + (f - frame.0) ≡ q = omega (arith, same) in
      rw (e.1, within_test frame.0 pages.count f (omega (arith, same)) (omega (arith, same))) (ap Some page)

  target-found : (pages : PageRange) (t : Target) (p : ℕ)
      → target_page f s pages t ≡ Some p
      → (pages.first.0 ≤ p)
      × (p < pages.first.0 + pages.count)
      × (maps_frame f s (advance (entry_of_target t) (p - pages.first.0)) ≡ true)
  target-found pages Malformed p h = cc
  target-found pages (Annotated o) p h = cc
  target-found pages (Leaf frame prot kind state) p h = by_test (state_eq state s && is_within frame.0 pages.count f)
      (λ t. let e = and-both (state_eq state s) (is_within frame.0 pages.count f) t in
      let w = within_means frame.0 pages.count f e.1 in
      let some : Some (pages.first.0 + (f - frame.0)) ≡ Some p = rw t at h in
      let page : pages.first.0 + (f - frame.0) ≡ p = some-same some in
      let back : frame.0 + (p - pages.first.0) ≡ f = omega (arith, w.0, page) in (
        omega (arith, page),
        omega (arith, page, w.0, w.1),
        rw (eq-made (frame.0 + (p - pages.first.0)) f back, e.0) refl,
      ))
      (λ t. let none : None ≡ Some p = rw t at h in absurd (none-some none))

  -- a page of a run at which the run's own page doesn't stand
  run-other : (r : Run) (q : ℕ)
      → r.pages.first.0 ≤ q
      → q < run_end r
      → (run_page f s r ≡ Some q → ⊥)
      → maps_frame f s (entry_on r q) ≡ false
  run-other r q a b u = not-holds (maps_frame f s (entry_on r q)) (λ t. u (target-inside r.pages r.target q a b t))

  unmapped : (rs : List Run) (q : ℕ) → map_of rs q ≡ Unmapped → maps_frame f s (map_of rs q) ≡ false
  unmapped rs q e = ap (maps_frame f s) e

  pub missing : (rs : List Run) → first_page_in f s rs ≡ None → (q : ℕ) → maps_frame f s (map_of rs q) ≡ false
  missing [] h q = refl
  missing (r ∷ rs) h q =
      let both = none-both (run_page f s r) (first_page_in f s rs) h in
      by_test (is_in_range r.pages q)
      (λ t. let w = within_means r.pages.first.0 r.pages.count q t in
      rw t (run-other r q w.0 w.1 (λ e. none-some (sym both.0 ∙ e))))
      (λ t. rw t (missing rs both.1 q))

  abbrev pub IsFirst : List Run → ℕ → Type 0
  IsFirst rs p = (maps_frame f s (map_of rs p) ≡ true) × ((q : ℕ) → q < p → maps_frame f s (map_of rs q) ≡ false)

  here : (r : Run) (rs : List Run) (p : ℕ) → IsCoarsest (r ∷ rs) → run_page f s r ≡ Some p → IsFirst (r ∷ rs) p
  here r rs p c e =
      let w = target-found r.pages r.target p e in (
        ap (maps_frame f s) (map_of-first r rs p w.0 w.1) ∙ w.2,
        λ q h. by_lt q r.pages.first.0
            (λ k. unmapped (r ∷ rs) q (low (r ∷ rs) r.pages.first.0 c (omega arith) q k))
            (λ k. ap (maps_frame f s) (map_of-first r rs q k (omega (arith, w.1)))
            ∙ run-other r q k (omega (arith, w.1))
            (λ g. let same : p ≡ q = some-same (sym e ∙ g) in absurd (omega (arith, same)))),
      )

  true-false : true ≡ false → ⊥
  true-false h = cc

  later : (r : Run) (rs : List Run) (p : ℕ)
      → IsCoarsest (r ∷ rs)
      → run_page f s r ≡ None
      → IsFirst rs p
      → IsFirst (r ∷ rs) p
  later r rs p c e i =
      let past : run_end r ≤ p = by_lt p (run_end r)
      (λ k. absurd (true-false (sym i.0 ∙ unmapped rs p (low rs (run_end r) c.2 (starts_behind r rs c.1) p k))))
      (λ k. k) in (
        ap (maps_frame f s) (map_of-behind r rs p past) ∙ i.0,
        λ q h. by_lt q (run_end r)
            (λ k. by_lt q r.pages.first.0
            (λ m. unmapped (r ∷ rs) q (low (r ∷ rs) r.pages.first.0 c (omega arith) q m))
            (λ m. ap (maps_frame f s) (map_of-first r rs q m k) ∙ run-other r q m k (λ g. none-some (sym e ∙ g))))
            (λ k. ap (maps_frame f s) (map_of-behind r rs q k) ∙ i.1 q h),
      )

  pub found : (rs : List Run) (p : ℕ) → IsCoarsest rs → first_page_in f s rs ≡ Some p → IsFirst rs p
  found [] p c h = absurd (none-some h)
  found (r ∷ rs) p c h = elim (some-either (run_page f s r) (first_page_in f s rs) p h) [
    | inl e ↦ here r rs p c e
    | inr e ↦ later r rs p c e.0 (found rs p c.2 e.1)
  ]

  module _ (l : Layout) (rs : List Run) where
    pub page-is : (p : ℕ)
        → IsCoarsest rs
        → first_page_in f s rs ≡ Some p
        → p < pages_below l.depth
        → page_of l (map_of rs) s f ≡ Some p
    page-is p c h less = let i = found rs p c h in
        first-is 0 (pages_below l.depth) p (λ page. maps_frame f s (map_of rs page)) (omega arith) (omega arith) i.0 i.1

    pub page-past : (p : ℕ)
        → IsCoarsest rs
        → first_page_in f s rs ≡ Some p
        → pages_below l.depth ≤ p
        → page_of l (map_of rs) s f ≡ None
    page-past p c h more = let i = found rs p c h in
        first-none 0 (pages_below l.depth) (λ page. maps_frame f s (map_of rs page)) (λ j k. i.1 j (omega arith))

    pub page-none : first_page_in f s rs ≡ None → page_of l (map_of rs) s f ≡ None
    page-none h = first-none 0 (pages_below l.depth) (λ page. maps_frame f s (map_of rs page)) (λ j k. missing rs h j)
