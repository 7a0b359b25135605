-- Lists of runs over another entry; the parts of runs on either side of a page.
use Rattle.std.proofs.Common.{◌≡◌, ℕ, suc, ◌+◌, ◌-◌, ◌^◌, ◌<◌, ◌≤◌, true, false, ◌==◌, min, List, [], ◌∷◌, map, refl, ap, subst, ◌∙◌, arith, cond}
use Rattle.std.proofs.lemmas.List.Elements.{All-nil, All-cons}
use Rattle.std.proofs.lemmas.Bool.Decides.{nat_tests}
use Rattle.page_state.specs.declared.entry.Entry.{Entry}
use Rattle.page_state.specs.declared.entry.Entry.TheVariants.{Unmapped, Malformed, Annotated, Leaf}
use Rattle.page_state.specs.declared.entry.PageRange.{PageRange}
use Rattle.page_state.specs.declared.entry.Run.{Run}
use Rattle.page_state.specs.declared.entry.Target.TheVariants.{Malformed as MalformedTarget, Annotated as AnnotatedTarget, Leaf as LeafTarget}
use Rattle.page_state.specs.Entries.{advance, entry_of_target}
use Rattle.page_state.specs.Map.{is_within}
use Rattle.page_state.specs.Regions.{is_in_range}
use Rattle.page_state.specs.Runs.{map_of, entry_on}
use Rattle.page_state.proofs.Cases.{by_test}
use Rattle.page_state.proofs.Entries.{advance-more, entry_advanced}
use Rattle.ghost_trees.specs.Small.{HasLowFrames, IsSmall, AreSmall}
use Rattle.ghost_trees.specs.declared.runs.Side.{Side}
use Rattle.ghost_trees.specs.declared.runs.Side.TheVariants.{Before, From}
use Rattle.ghost_trees.specs.Parts.{run_behind, run_part, runs_for}
use Rattle.ghost_trees.proofs.Entries.{low_fewer, low_behind}

-- the map of a list of runs where another entry stands below them
abbrev pub over : List Run → Entry → ℕ → Entry
over [] d p = d
over (r ∷ rs) d p = cond (is_in_range r.pages p) (entry_on r p) (over rs d p)

pub map_of-over : (rs : List Run) (p : ℕ) → map_of rs p ≡ over rs Unmapped p
map_of-over [] p = refl
map_of-over (r ∷ rs) p = rw (map_of-over rs p) refl

pub no_page : (a c p : ℕ) → (c == 0) ≡ true → is_within a c p ≡ false
no_page a c p h = grind (arith, nat_tests)

pub within_means : (a c p : ℕ) → is_within a c p ≡ true → (a ≤ p) × (p < a + c)
within_means a c p h = (grind (arith, nat_tests), grind (arith, nat_tests))

-- a page and the parts of a run before and from another page
before_keeps : (a c x p : ℕ) → p < x → is_within a (min (x - a) c) p ≡ is_within a c p
before_keeps a c x p h = grind (arith, nat_tests)

before_drops : (a c x p : ℕ) → x ≤ p → is_within a (min (x - a) c) p ≡ false
before_drops a c x p h = grind (arith, nat_tests)

from_drops : (a c x p : ℕ) → p < x → is_within (a + min (x - a) c) (c - min (x - a) c) p ≡ false
from_drops a c x p h = grind (arith, nat_tests)

from_keeps : (a c x p : ℕ) → x ≤ p → is_within (a + min (x - a) c) (c - min (x - a) c) p ≡ is_within a c p
from_keeps a c x p h = grind (arith, nat_tests)

entry_on_behind : (r : Run) (m p : ℕ) → r.pages.first.0 + m ≤ p → entry_on (run_behind r m) p ≡ entry_on r p
entry_on_behind r m p h =
    let e : m + (p - (r.pages.first.0 + m)) ≡ p - r.pages.first.0 = omega arith in
    ap (λ x. advance x (p - (r.pages.first.0 + m))) (entry_advanced r.target m)
    ∙ advance-more (entry_of_target r.target) m (p - (r.pages.first.0 + m)) ∙ ap (advance (entry_of_target r.target)) e

skipped_few : (a c x p : ℕ) → a ≤ p → x ≤ p → a + min (x - a) c ≤ p
skipped_few a c x p h k = omega arith

module _ (x : ℕ) where
  -- the parts of all runs on one side of the page
  abbrev pub all_parts : Side → List Run → List Run
  all_parts side rs = map (λ r. run_part side x r) rs

  pub before_low : (rs : List Run) (d : Entry) (p : ℕ) → p < x → over (all_parts Before rs) d p ≡ over rs d p
  before_low [] d p h = refl
  before_low (r ∷ rs) d p h = rw (before_keeps r.pages.first.0 r.pages.count x p h, before_low rs d p h) refl

  pub before_high : (rs : List Run) (d : Entry) (p : ℕ) → x ≤ p → over (all_parts Before rs) d p ≡ d
  before_high [] d p h = refl
  before_high (r ∷ rs) d p h = rw (before_drops r.pages.first.0 r.pages.count x p h) (before_high rs d p h)

  pub from_low : (rs : List Run) (d : Entry) (p : ℕ) → p < x → over (all_parts From rs) d p ≡ d
  from_low [] d p h = refl
  from_low (r ∷ rs) d p h = rw (from_drops r.pages.first.0 r.pages.count x p h) (from_low rs d p h)

  pub from_high : (rs : List Run) (d : Entry) (p : ℕ) → x ≤ p → over (all_parts From rs) d p ≡ over rs d p
  from_high [] d p h = refl
  from_high (r ∷ rs) d p h =
      rw (from_keeps r.pages.first.0 r.pages.count x p h, from_high rs d p h)
      (by_test (is_within r.pages.first.0 r.pages.count p)
      (λ w. rw w
      (entry_on_behind r (min (x - r.pages.first.0) r.pages.count) p
      (skipped_few r.pages.first.0 r.pages.count x p (within_means r.pages.first.0 r.pages.count p w).0 h)))
      (λ w. rw w refl))

  small_behind : (r : Run) (m : ℕ) → m ≤ r.pages.count → IsSmall r → IsSmall (run_behind r m)
  small_behind r m h s =
      let e : r.pages.count ≡ m + (r.pages.count - m) = omega arith in (
        omega (arith, s.0),
        rw (entry_advanced r.target m)
            (low_behind (entry_of_target r.target) m (r.pages.count - m)
            (subst (λ (n : ℕ). HasLowFrames (entry_of_target r.target) n) e s.1)),
      )

  pub small_part : (side : Side) (r : Run) → IsSmall r → IsSmall (run_part side x r)
  small_part Before r s = (
    omega (arith, s.0),
    low_fewer (entry_of_target r.target) (min (x - r.pages.first.0) r.pages.count) r.pages.count
        (omega arith) s.1,
  )
  small_part From r s = small_behind r (min (x - r.pages.first.0) r.pages.count) (omega arith) s

  pub small_parts : (side : Side) (rs : List Run) → AreSmall rs → AreSmall (all_parts side rs)
  small_parts side [] s = All-nil IsSmall
  small_parts side (r ∷ rs) s =
      All-cons IsSmall (run_part side x r) (all_parts side rs) (small_part side r (s 0 r (omega arith)))
      (small_parts side rs (λ k d h. s (suc k) d (omega arith)))

-- the run of a range with an entry
module _ (range : PageRange) where
  pub entry_inside : (e d : Entry) (p : ℕ)
      → is_within range.first.0 range.count p ≡ true
      → d ≡ Unmapped
      → over (runs_for range e) d p ≡ advance e (p - range.first.0)
  entry_inside Unmapped d p h n = n
  entry_inside Malformed d p h n = rw h refl
  entry_inside (Annotated o) d p h n = rw h refl
  entry_inside (Leaf f q k s) d p h n = rw h refl

  pub entry_outside : (e d : Entry) (p : ℕ)
      → is_within range.first.0 range.count p ≡ false
      → over (runs_for range e) d p ≡ d
  entry_outside Unmapped d p h = refl
  entry_outside Malformed d p h = rw h refl
  entry_outside (Annotated o) d p h = rw h refl
  entry_outside (Leaf f q k s) d p h = rw h refl

  pub small_entry : (e : Entry)
      → range.first.0 + range.count ≤ 2 ^ 63
      → HasLowFrames e range.count
      → AreSmall (runs_for range e)
  small_entry Unmapped h l = All-nil IsSmall
  small_entry Malformed h l =
      All-cons IsSmall (record { pages = range; target = MalformedTarget }) [] (h, tt) (All-nil IsSmall)
  small_entry (Annotated o) h l =
      All-cons IsSmall (record { pages = range; target = AnnotatedTarget o }) [] (h, tt) (All-nil IsSmall)
  small_entry (Leaf f p k s) h l =
      All-cons IsSmall (record { pages = range; target = LeafTarget f p k s }) [] (h, l) (All-nil IsSmall)
