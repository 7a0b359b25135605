-- How many frames have a row, before and after a change.
use Rattle.std.proofs.Common.{◌≡◌, ℕ, zero, suc, ◌+◌, ◌-◌, ◌<◌, ◌≤◌, ◌↔◌, true, false, List, length, Option, Some, None, refl, sym, ap, ◌∙◌, arith}
use Rattle.std.specs.Prelude.{IsSome}
use Rattle.std.proofs.lemmas.Bool.Decides.{nat_tests}
use Rattle.page_state.specs.declared.entry.PageRange.{PageRange}
use Rattle.page_state.specs.declared.row.Row.{Row}
use Rattle.page_state.specs.Map.{is_within}
use Rattle.page_state.specs.Regions.{is_in_range}
use Rattle.page_state.specs.Rows.{advance_row}
use Rattle.page_state.proofs.Common.{if-true, if-false}
use Rattle.page_state.proofs.Cases.{by_test}
use Rattle.run_list.specs.declared.run.Run.{Run}
use Rattle.run_list.specs.Counts.{one_of, pages_of}
use Rattle.run_list.specs.Runs.{IsCoarsest}
use Rattle.run_list.proofs.Counts.{runs_no_more}
use Rattle.owner_table.specs.Room.{HasRoom}
use Rattle.owner_table.specs.Rows.{row_at, rows_set, HasRows, HasSameFrames}

-- a coarsest list with room for a run a frame, and two more, has room for two more
pub few_enough : (runs : List (Run Row)) (room end : ℕ) → HasRoom runs room end → 2 ≤ room
few_enough runs room end h = let few = runs_no_more advance_row runs end h.coarsest h.outside in
    let e = h.enough in
    omega arith

pub inside : (first count f : ℕ) → is_within first count f ≡ true → (first ≤ f) × (f < first + count)
inside first count f h = (grind (arith, nat_tests), grind (arith, nat_tests))

-- a frame of a range has the row, advanced by its distance from the first, and any other what it had
pub set-in : (m : ℕ → Option Row) (frames : PageRange) (row : Row) (f : ℕ)
    → is_in_range frames f ≡ true
    → rows_set m frames row f ≡ Some (advance_row row (f - frames.first.0))
set-in m frames row f h = if-true (is_in_range frames f) (Some (advance_row row (f - frames.first.0))) (m f) h

pub set-out : (m : ℕ → Option Row) (frames : PageRange) (row : Row) (f : ℕ)
    → is_in_range frames f ≡ false
    → rows_set m frames row f ≡ m f
set-out m frames row f h = if-false (is_in_range frames f) (Some (advance_row row (f - frames.first.0))) (m f) h

one-some : (o : Option Row) → IsSome o → one_of o ≡ 1
one-some None h = cc
one-some (Some r) h = refl

some-made : (o : Option Row) (r : Row) → o ≡ Some r → IsSome o
some-made None r e = cc
some-made (Some q) r e = refl

not-some : (o : Option Row) → o ≡ None → IsSome o → ⊥
not-some None e k = cc
not-some (Some r) e k = cc

some-same : (o p : Option Row) → o ≡ p → IsSome o → IsSome p
some-same None p e k = cc
some-same (Some r) None e k = cc
some-same (Some r) (Some q) e k = refl

module _ (m : ℕ → Option Row) (frames : PageRange) (row : Row)
    (known : (f : ℕ) → frames.first.0 ≤ f → f < frames.first.0 + frames.count → IsSome (m f)) where
  had : (f : ℕ) → is_in_range frames f ≡ true → IsSome (m f)
  had f h = let i = inside frames.first.0 frames.count f h in known f i.0 i.1

  one-kept : (f : ℕ) → one_of (rows_set m frames row f) ≡ one_of (m f)
  one-kept f =
      by_test (is_in_range frames f)
      (λ h. ap one_of (set-in m frames row f h) ∙ sym (one-some (m f) (had f h)))
      (λ h. ap one_of (set-out m frames row f h))

  pub pages-kept : (n : ℕ) → pages_of (rows_set m frames row) n ≡ pages_of m n
  pages-kept zero = refl
  pages-kept (suc n) = let a = pages-kept n in let b = one-kept n in omega arith

  pub none-kept : (f : ℕ) → m f ≡ None → rows_set m frames row f ≡ None
  none-kept f e =
      by_test (is_in_range frames f)
      (λ h. absurd (not-some (m f) e (had f h)))
      (λ h. set-out m frames row f h ∙ e)

  pub same-frames : (f : ℕ) → IsSome (rows_set m frames row f) ↔ IsSome (m f)
  same-frames f =
      by_test (is_in_range frames f)
      (λ h. (
        λ _. had f h,
        λ _. some-made (rows_set m frames row f) (advance_row row (f - frames.first.0))
            (set-in m frames row f h),
      ))
      (λ h. (
        some-same (rows_set m frames row f) (m f) (set-out m frames row f h),
        some-same (m f) (rows_set m frames row f) (sym (set-out m frames row f h)),
      ))

pub room-kept : (old new : List (Run Row)) (room left end : ℕ) (frames : PageRange) (row : Row)
    → HasRows old frames
    → HasRoom old room end
    → row_at new ≡ rows_set (row_at old) frames row
    → IsCoarsest advance_row new
    → left + length new ≡ room + length old
    → HasRoom new left end
room-kept old new room left end frames row known h e c r =
    let same : pages_of (row_at new) end ≡ pages_of (row_at old) end =
    ap (λ m. pages_of m end) e ∙ pages-kept (row_at old) frames row known end in
    let enough = h.enough in
    record {
      coarsest = c;
      outside = λ f k. ap (λ m. m f) e ∙ none-kept (row_at old) frames row known f (h.outside f k);
      enough = omega arith;
    }

pub frames-kept : (old new : List (Run Row)) (frames : PageRange) (row : Row)
    → HasRows old frames
    → row_at new ≡ rows_set (row_at old) frames row
    → HasSameFrames old new
frames-kept old new frames row known e f =
    let here = same-frames (row_at old) frames row known f in
    let at : row_at new f ≡ rows_set (row_at old) frames row f = ap (λ m. m f) e in (
      λ k. here.0 (some-same (row_at new f) (rows_set (row_at old) frames row f) at k),
      λ k. some-same (rows_set (row_at old) frames row f) (row_at new f) (sym at) (here.1 k),
    )
