-- Runs of a list taken from the first on: what stands in front of a run tells nothing of its pages, or of its frames.
use Rattle.std.proofs.Common.{◌≡◌, ℕ, Bool, zero, suc, ◌+◌, ◌<◌, ◌≤◌, true, false, List, [], ◌∷◌, take, drop, length, get_or, Option, Some, None, refl, sym, ap, subst, ◌∙◌, arith, cond}
use Rattle.std.specs.Option.{option_or}
use Rattle.std.specs.Prelude.{is_some, nat_lt}
use Rattle.std.proofs.lemmas.Bool.Decides.{nat_tests}
use Rattle.std.proofs.lemmas.List.{drop_more}
use Rattle.descriptor.specs.declared.State.{State}
use Rattle.page_state.specs.declared.entry.Entry.{Entry}
use Rattle.page_state.specs.declared.entry.Entry.TheVariants.{Unmapped}
use Rattle.page_state.specs.declared.entry.PageRange.{PageRange}
use Rattle.page_state.specs.declared.entry.Run.{Run}
use Rattle.page_state.specs.declared.row.Row.{Row}
use Rattle.page_state.specs.Map.{is_within}
use Rattle.page_state.specs.Regions.{end_of, is_in_range}
use Rattle.page_state.specs.Runs.{map_of, run_end, entry_on, IsCoarsest}
use Rattle.page_state.proofs.Cases.{by_test}
use Rattle.ghost_spec.specs.Found.{run_page}
use Rattle.ghost_trees.specs.Parts.{BeginsFrom}
use Rattle.ghost_trees.proofs.Coarse.{begins_before, begins_next}
use Rattle.ghost_trees.proofs.Overlaid.{within_means}
use Rattle.ghost_rows.specs.RowsLaid.{annotated_row, annotation_on, loan_at, low_page, run_below, run_frames, next_above, last_above}
use Rattle.ghost_rows.proofs.RowsLaid.{page_in, page-among}

pub or-none : {X : Type 0} (o : Option X) → option_or o None ≡ o
or-none None = refl
or-none (Some x) = refl

-- pages

begins_at : (low : ℕ) (rs : List Run) (i : ℕ) (d : Run)
    → IsCoarsest rs
    → BeginsFrom low rs
    → i < length rs
    → low ≤ (get_or rs i d).pages.first.0
begins_at low [] i d c b h = absurd (omega (arith, h))
begins_at low (r ∷ rs) zero d c b h = b
begins_at low (r ∷ rs) (suc i) d c b h =
    begins_at low rs i d c.2 (begins_before low (run_end r) rs (omega (arith, b)) (begins_next r rs c.1))
    (omega (arith, h))

-- a run begins where the one in front of it ends, or behind that
pub next_begins : (rs : List Run) (i : ℕ) (d e : Run)
    → IsCoarsest rs
    → i + 1 < length rs
    → run_end (get_or rs i d) ≤ (get_or rs (i + 1) e).pages.first.0
next_begins rs i d e c h = let next : i + 1 ≡ suc i = omega arith in
    subst (λ (j : ℕ). run_end (get_or rs i d) ≤ (get_or rs j e).pages.first.0) (sym next)
    (there rs i d e c (omega (arith, h)))
  where
    there : (rs : List Run) (i : ℕ) (d e : Run)
        → IsCoarsest rs
        → suc i < length rs
        → run_end (get_or rs i d) ≤ (get_or rs (suc i) e).pages.first.0
    there [] i d e c h = absurd (omega (arith, h))
    there (r ∷ rs) zero d e c h = begins_at (run_end r) rs 0 e c.2 (begins_next r rs c.1) (omega (arith, h))
    there (r ∷ rs) (suc i) d e c h = there rs i d e c.2 (omega (arith, h))

outside : (a n p : ℕ) → a + n ≤ p → is_within a n p ≡ false
outside a n p h = grind (arith, nat_tests)

-- the runs in front of a run have none of its pages
ahead : (rs : List Run) (i : ℕ) (d : Run) (p : ℕ)
    → IsCoarsest rs
    → i < length rs
    → is_in_range (get_or rs i d).pages p ≡ true
    → map_of (take i rs) p ≡ Unmapped
ahead [] i d p c h t = absurd (omega (arith, h))
ahead (r ∷ rs) zero d p c h t = refl
ahead (r ∷ rs) (suc i) d p c h t =
    let run : Run = get_or rs i d in
    let behind : run_end r ≤ run.pages.first.0 =
    begins_at (run_end r) rs i d c.2 (begins_next r rs c.1) (omega (arith, h)) in
    let w = within_means run.pages.first.0 run.pages.count p t in
    rw (outside r.pages.first.0 r.pages.count p (omega (arith, behind, w.0))) (ahead rs i d p c.2 (omega (arith, h)) t)

-- one run more
taken : (rs : List Run) (i : ℕ) (d : Run) (p : ℕ) → IsCoarsest rs → i < length rs
    → map_of (take (suc i) rs) p
    ≡ cond (is_in_range (get_or rs i d).pages p) (entry_on (get_or rs i d) p) (map_of (take i rs) p)
taken [] i d p c h = absurd (omega (arith, h))
taken (r ∷ rs) zero d p c h = refl
taken (r ∷ rs) (suc i) d p c h =
    let run : Run = get_or rs i d in
    let behind : run_end r ≤ run.pages.first.0 =
    begins_at (run_end r) rs i d c.2 (begins_next r rs c.1) (omega (arith, h)) in
    let more : (b : Bool) → is_in_range run.pages p ≡ b → map_of (take (suc i) rs) p ≡ cond b (entry_on run p) (map_of (take i rs) p) =
    λ b t. taken rs i d p c.2 (omega (arith, h))
    ∙ ap (λ (x : Bool). cond x (entry_on run p) (map_of (take i rs) p)) t in
    by_test (is_in_range run.pages p)
    (λ t. let w = within_means run.pages.first.0 run.pages.count p t in
    rw (outside r.pages.first.0 r.pages.count p (omega (arith, behind, w.0)), t) (more true t))
    (λ t. rw t (ap (λ (e : Entry). cond (is_in_range r.pages p) (entry_on r p) e) (more false t)))

pub annotated-more : (all : List Run) (i : ℕ) (d : Run) (m n : ℕ → Option Row) → IsCoarsest all → i < length all
    → ((f : ℕ) → m f ≡ annotated_row (map_of (take i all) f))
    → ((f : ℕ) → n f ≡ option_or (annotation_on (get_or all i d) f) (m f))
    → (f : ℕ) → n f ≡ annotated_row (map_of (take (i + 1) all) f)
annotated-more all i d m n c h same laid f =
    let run : Run = get_or all i d in
    let next : suc i ≡ i + 1 = omega arith in
    let more : (b : Bool) → is_in_range run.pages f ≡ b → map_of (take (i + 1) all) f ≡ cond b (entry_on run f) (map_of (take i all) f) =
    λ b t. sym (ap (λ (n : ℕ). map_of (take n all) f) next) ∙ taken all i d f c h
    ∙ ap (λ (x : Bool). cond x (entry_on run f) (map_of (take i all) f)) t in
    by_test (is_in_range run.pages f)
    (λ t. let none : m f ≡ None = same f ∙ ap annotated_row (ahead all i d f c h t) in
    let own : option_or (annotation_on run f) (m f) ≡ annotated_row (entry_on run f) =
    rw (t, none) (or-none (annotated_row (entry_on run f))) in
    laid f ∙ own ∙ sym (ap annotated_row (more true t)))
    (λ t. let other : option_or (annotation_on run f) (m f) ≡ annotated_row (map_of (take i all) f) = rw t (same f) in
    laid f ∙ other ∙ sym (ap annotated_row (more false t)))

-- frames

module _ (limit : ℕ) (s : State) (f : ℕ) where
  one-more : (rs : List Run) (i : ℕ) (d : Run)
      → i < length rs
      → low_page limit s f (take (suc i) rs)
      ≡ option_or (low_page limit s f (take i rs)) (run_page f s (run_below limit (get_or rs i d)))
  one-more [] i d h = absurd (omega (arith, h))
  one-more (r ∷ rs) zero d h = or-none (run_page f s (run_below limit r))
  one-more (r ∷ rs) (suc i) d h =
      ap (λ o. option_or (run_page f s (run_below limit r)) o) (one-more rs i d (omega (arith, h)))
      ∙ either (run_page f s (run_below limit r)) (low_page limit s f (take i rs))
      (run_page f s (run_below limit (get_or rs i d)))
    where
      either : (a b c : Option ℕ) → option_or a (option_or b c) ≡ option_or (option_or a b) c
      either None b c = refl
      either (Some a) b c = refl

  low_page-more : (rs : List Run) (i : ℕ) (d : Run)
      → i < length rs
      → low_page limit s f (take (i + 1) rs)
      ≡ option_or (low_page limit s f (take i rs)) (run_page f s (run_below limit (get_or rs i d)))
  low_page-more rs i d h = let next : suc i ≡ i + 1 = omega arith in
      sym (ap (λ (n : ℕ). low_page limit s f (take n rs)) next) ∙ one-more rs i d h

  -- what a run maps in the state below the limit stands from a frame on, and before another
  pub record IsNextAbove (high : ℕ) (r : Run) (end : ℕ) : Type 0 where
    pub order : high ≤ end
    pub within : is_some (run_page f s (run_below limit r)) ≡ true → (high ≤ f) × (f < end)

  pub next-above : (high end : ℕ) (r : Run)
      → Some end ≡ next_above high (run_frames s (run_below limit r))
      → IsNextAbove high r end
  next-above high end r is = by_frames (run_frames s (run_below limit r)) refl is
    where
      by_frames : (o : Option PageRange)
          → o ≡ run_frames s (run_below limit r)
          → Some end ≡ next_above high o
          → IsNextAbove high r end
      by_frames None e k =
          let same : end ≡ high = cc in
          record {
            order = omega (arith, same);
            within = λ t. let none : is_some (run_page f s (run_below limit r)) ≡ false =
                ap is_some (page-among f s (run_below limit r) None e) in
                cc;
          }
      by_frames (Some frames) e k = by_test (nat_lt frames.first.0 high)
          (λ t. let none : next_above high (Some frames) ≡ None = rw t refl in cc)
          (λ t. let ends : next_above high (Some frames) ≡ Some (end_of frames) = rw t refl in
          let same : end ≡ end_of frames = cc in
          let from : high ≤ frames.first.0 = grind (arith, nat_tests) in
          let page = page-among f s (run_below limit r) (Some frames) e in
          record {
            order = omega (arith, same, from);
            within = λ u. by_test (is_within frames.first.0 frames.count f)
                (λ w. let there = within_means frames.first.0 frames.count f w in
                (omega (arith, there.0, from), omega (arith, there.1, same)))
                (λ w. let none : is_some (page_in r.pages.first.0 (Some frames) f) ≡ false = rw w refl in
                let other : is_some (run_page f s (run_below limit r)) ≡ false = ap is_some page ∙ none in cc);
          })

  -- a run whose frames stand behind those of all in front of it
  next-loan : (number high end : ℕ) (r : Run) (before : Option ℕ) (old : Option Row)
      → IsNextAbove high r end
      → (high ≤ f → before ≡ None)
      → option_or (loan_at number (run_page f s (run_below limit r))) (option_or (loan_at number before) old)
      ≡ option_or (loan_at number (option_or before (run_page f s (run_below limit r)))) old
  next-loan number high end r before old a none = by_page (run_page f s (run_below limit r)) refl
    where
      by_page : (o : Option ℕ)
          → run_page f s (run_below limit r) ≡ o
          → option_or (loan_at number o) (option_or (loan_at number before) old)
          ≡ option_or (loan_at number (option_or before o)) old
      by_page None e = ap (λ (o : Option ℕ). option_or (loan_at number o) old) (sym (or-none before))
      by_page (Some p) e = rw (none (a.within (ap is_some e)).0) refl

  next-none : (high end : ℕ) (r : Run) (before : Option ℕ)
      → IsNextAbove high r end
      → (high ≤ f → before ≡ None)
      → end ≤ f
      → option_or before (run_page f s (run_below limit r)) ≡ None
  next-none high end r before a none h = by_page (run_page f s (run_below limit r)) refl
    where
      by_page : (o : Option ℕ) → run_page f s (run_below limit r) ≡ o → option_or before o ≡ None
      by_page None e = or-none before ∙ none (omega (arith, a.order, h))
      by_page (Some p) e = absurd (omega (arith, h, (a.within (ap is_some e)).1))

  pub lent-more : (number high end : ℕ) (rs : List Run) (i : ℕ) (d : Run) (new before old : Option Row)
      → i < length rs
      → IsNextAbove high (get_or rs i d) end
      → (high ≤ f → low_page limit s f (take i rs) ≡ None)
      → new ≡ option_or (loan_at number (run_page f s (run_below limit (get_or rs i d)))) before
      → before ≡ option_or (loan_at number (low_page limit s f (take i rs))) old
      → new ≡ option_or (loan_at number (low_page limit s f (take (i + 1) rs))) old
  lent-more number high end rs i d new before old h a none e k =
      e ∙ ap (λ (o : Option Row). option_or (loan_at number (run_page f s (run_below limit (get_or rs i d)))) o) k
      ∙ next-loan number high end (get_or rs i d) (low_page limit s f (take i rs)) old a none
      ∙ ap (λ (o : Option ℕ). option_or (loan_at number o) old) (sym (low_page-more rs i d h))

  pub none-more : (high end : ℕ) (rs : List Run) (i : ℕ) (d : Run)
      → i < length rs
      → IsNextAbove high (get_or rs i d) end
      → (high ≤ f → low_page limit s f (take i rs) ≡ None)
      → end ≤ f
      → low_page limit s f (take (i + 1) rs) ≡ None
  none-more high end rs i d h a none k =
      low_page-more rs i d h ∙ next-none high end (get_or rs i d) (low_page limit s f (take i rs)) a none k

-- the end of one run's frames more

pub rises-more : (limit : ℕ) (s : State) (high end : ℕ) (rs : List Run) (i : ℕ) (d : Run)
    → i < length rs
    → Some end ≡ next_above high (run_frames s (run_below limit (get_or rs i d)))
    → last_above limit s high (drop i rs) ≡ last_above limit s end (drop (i + 1) rs)
rises-more limit s high end rs i d h e = ap (last_above limit s high) (drop_more rs i d h)
    ∙ ap (λ (o : Option ℕ). elim o [ Some next ↦ last_above limit s next (drop (i + 1) rs) | None ↦ None ]) (sym e)

pub rises-not : (limit : ℕ) (s : State) (high : ℕ) (rs : List Run) (i : ℕ) (d : Run)
    → i < length rs
    → None ≡ next_above high (run_frames s (run_below limit (get_or rs i d)))
    → last_above limit s high (drop i rs) ≡ None
rises-not limit s high rs i d h e = ap (last_above limit s high) (drop_more rs i d h)
    ∙ ap (λ (o : Option ℕ). elim o [ Some next ↦ last_above limit s next (drop (i + 1) rs) | None ↦ None ]) (sym e)
