-- Runs that the lists tell as a whole.
use Rattle.std.proofs.Common.{◌≡◌, ◌∙◌, ℕ, suc, ◌+◌, ◌-◌, ◌<◌, ◌≤◌, List, take, drop, get_or, Option, Some, None, refl, sym, ap, subst, arith}
use Rattle.std.proofs.lemmas.List.{drop_more}
use Rattle.page_state.specs.declared.entry.PageRange.{PageRange}
use Rattle.page_state.specs.declared.row.Lent.{Lent}
use Rattle.page_state.specs.declared.row.Row.{Row}
use Rattle.page_state.specs.declared.row.Usage.{Usage}
use Rattle.page_state.specs.Regions.{end_of}
use Rattle.page_state.specs.Rows.{advance_row, advance_lent}
use Rattle.page_state.proofs.Cases.{by_lt}
use Rattle.page_state.proofs.Common.{same2}
use Rattle.run_list.specs.declared.run.Run.{Run}
use Rattle.run_list.specs.Runs.{run_end, run_map, EndBefore, IsCoarsest, option_advance, StartsFrom}
use Rattle.run_list.proofs.Found.{ended_at}
use Rattle.run_list.proofs.Maps.{ends_later, none_low, run_in}
use Rattle.ghost_rows.specs.declared.rows.kept.Near.{Near}
use Rattle.ghost_rows.specs.declared.rows.pieces.Lists.{Lists}
use Rattle.ghost_rows.specs.declared.rows.pieces.Stand.{Stand}
use Rattle.ghost_rows.specs.declared.rows.pieces.Stands.{Stands}
use Rattle.ghost_rows.specs.declared.rows.pieces.Steady.{Steady}
use Rattle.ghost_rows.specs.ListedRows.{lender, lent_told, number_told, quiet_to, row_told, row_with, usage_told, AreCarried, AreNear, AreSteady, IsAnnotatedOn, IsCarried, IsLentOn, IsNear, IsOn, IsPassed, IsStanding, IsSteady}
use Rattle.ghost_rows.proofs.ListedRows.{all-later, from_place, one-more, skipped, stand-on}

-- a list between two frames, from a place on before which its runs have ended: none begins there, or one has them all

module _ (rs : List (Run Row)) (frame place f : ℕ) (near : IsNear (frame + 1) place rs) (a : frame ≤ f) where
  pub clear-none : (end : ℕ)
      → IsCoarsest advance_row rs
      → StartsFrom end (drop place rs)
      → f < end
      → run_map advance_row rs f ≡ None
  clear-none end c s b =
      skipped (frame + 1) place rs f near.front (omega (arith, a))
      ∙ none_low advance_row end f (drop place rs) (from_place place rs c) s b

  pub on-some : (d : Run Row) (pages : PageRange)
      → IsOn pages place rs
      → pages.first.0 ≤ f
      → f < end_of pages
      → run_map advance_row rs f ≡ Some (advance_row (get_or rs place d).value (f - pages.first.0))
  on-some d pages on b e =
      let first = on.first d in
      let count = on.count d in
      skipped (frame + 1) place rs f near.front (omega (arith, a))
      ∙ ap (λ (ss : List (Run Row)). run_map advance_row ss f) (drop_more rs place d on.within)
      ∙ run_in advance_row (get_or rs place d) (drop (place + 1) rs) f (omega (arith, first, b))
      (omega (arith, first, count, e))
      ∙ ap (λ (n : ℕ). Some (advance_row (get_or rs place d).value (f - n))) first

-- the place behind a run that has ended
pub carried-on-one : (rs : List (Run Row)) (d : Run Row) (s : Stand) (pages : PageRange)
    → IsCarried pages.first.0 s rs
    → IsOn pages s.place rs
    → IsCarried (end_of pages) (record s { place = s.place + 1 }) rs
carried-on-one rs d s pages c on =
    let first = on.first d in
    let count = on.count d in
    let n : suc s.place ≡ s.place + 1 = omega arith in
    record {
      near = record {
        within = omega (arith, on.within);
        front = subst (λ i. EndBefore (end_of pages + 1) (take i rs)) n
            (one-more (end_of pages + 1) s.place rs d
            (ends_later (pages.first.0 + 1) (end_of pages + 1) (take s.place rs)
            (omega arith) c.near.front) on.within
            (omega (arith, first, count)));
      };
      stays = λ less. by_lt pages.first.0 s.until
          (λ k. let here = c.stays k in
          let end = ended_at (pages.first.0 + 1) s.place rs d here.at.back on.within in
          let ends = (here.bound d on.within).ends in
          let x = ends (omega (arith, first, count, less)) in absurd (omega (arith, x, end)))
          (λ k. absurd (omega (arith, k, less)));
    }

-- owners, sharers and uses stay along a piece

number-on : (l : Option Lent) (n : ℕ) → number_told (advance_lent l n) ≡ number_told l
number-on None n = refl
number-on (Some l) n = refl

lender-on : (l : Option Lent) (n sharer : ℕ) → lender (advance_lent l n) sharer ≡ lender l sharer
lender-on None n sharer = refl
lender-on (Some l) n sharer = refl

sharer-on : (o : Option Row) (n : ℕ)
    → number_told (lent_told (option_advance advance_row o n)) ≡ number_told (lent_told o)
sharer-on None n = refl
sharer-on (Some r) n = number-on r.lent n

usage-on : (o : Option Row) (n : ℕ) → usage_told (option_advance advance_row o n) ≡ usage_told o
usage-on None n = refl
usage-on (Some r) n = refl

pub steady-told : (frame : ℕ) (sharers uses : Stand) (s : Steady) (x : Lists)
    → IsCoarsest advance_row x.shared.runs
    → IsCoarsest advance_row x.used.runs
    → IsStanding frame sharers x.shared.runs
    → IsStanding frame uses x.used.runs
    → s.until ≤ sharers.until
    → s.until ≤ uses.until
    → s.sharer.0 ≡ number_told (lent_told (run_map advance_row x.shared.runs frame))
    → s.usage ≡ usage_told (run_map advance_row x.used.runs frame)
    → AreSteady frame s x
steady-told frame sharers uses s x c d shared used low high sharer usage f a b = record {
  sharer =
      ap (λ (o : Option Row). number_told (lent_told o))
      (stand-on x.shared.runs frame f sharers c shared a (omega (arith, b, low)))
      ∙ sharer-on (run_map advance_row x.shared.runs frame) (f - frame) ∙ sym sharer;
  usage =
      ap usage_told (stand-on x.used.runs frame f uses d used a (omega (arith, b, high)))
      ∙ usage-on (run_map advance_row x.used.runs frame) (f - frame) ∙ sym usage;
}

steady-later : (a b : ℕ) (s : Steady) (x : Lists) → a ≤ b → AreSteady a s x → AreSteady b s x
steady-later a b s x h steady f k = steady f (omega (arith, h, k))

module _ (x : Lists) (r : Run Row) (here : Stands) (s : Steady) (carried : AreCarried r.pages.first.0 here x)
    (steady : AreSteady r.pages.first.0 s x) (within : run_end r ≤ s.until) where
  -- each frame of the run
  is-steady : (f : ℕ) → r.pages.first.0 ≤ f → f < run_end r → IsSteady x s f
  is-steady f a b = steady f a (omega (arith, b, within))

  later : AreCarried (run_end r) here x
  later = all-later r.pages.first.0 (run_end r) here x (omega arith) carried

  module _ (owners : IsCoarsest advance_row x.annotated.runs) (loans : IsCoarsest advance_row x.lent.runs) where
    pub plain-passed : StartsFrom (run_end r) (drop here.annotated.place x.annotated.runs)
        → StartsFrom (run_end r) (drop here.lent.place x.lent.runs)
        → r.value ≡ row_with 0 None s.usage
        → IsPassed x r here
    plain-passed h k same = record {
      told =
          λ f a b. same2
          (λ (o p : Option Row). row_told o p (run_map advance_row x.shared.runs f)
          (run_map advance_row x.used.runs f))
          (clear-none x.annotated.runs r.pages.first.0 here.annotated.place f carried.annotated.near a
          (run_end r) owners h b)
          (clear-none x.lent.runs r.pages.first.0 here.lent.place f carried.lent.near a (run_end r) loans k b)
          ∙ ap (λ (u : Usage). row_with 0 None u) (is-steady f a b).usage
          ∙ sym (ap (λ (v : Row). advance_row v (f - r.pages.first.0)) same);
      carried = later;
    }

    pub lent-passed : StartsFrom (run_end r) (drop here.annotated.place x.annotated.runs)
        → IsLentOn r s here.lent.place x.lent.runs
        → IsPassed x r (record here { lent = record here.lent { place = here.lent.place + 1 } })
    lent-passed h k = record {
      told = λ f a b.
          let l = get_or x.lent.runs here.lent.place r in
          let offset = f - r.pages.first.0 in
          let lent = advance_lent l.value.lent offset in
          same2
          (λ (o p : Option Row). row_told o p (run_map advance_row x.shared.runs f)
          (run_map advance_row x.used.runs f))
          (clear-none x.annotated.runs r.pages.first.0 here.annotated.place f carried.annotated.near a
          (run_end r) owners h b)
          (on-some x.lent.runs r.pages.first.0 here.lent.place f carried.lent.near a r r.pages k.on a b)
          ∙ same2 (λ (n : ℕ) (u : Usage). row_with (lender lent n) lent u) (is-steady f a b).sharer
          (is-steady f a b).usage
          ∙ ap (λ (n : ℕ). row_with n lent s.usage) (lender-on l.value.lent offset s.sharer.0)
          ∙ sym (ap (λ (v : Row). advance_row v offset) (k.same r));
      carried =
          record {
            annotated = later.annotated;
            lent = carried-on-one x.lent.runs r here.lent r.pages carried.lent k.on;
            shared = later.shared;
            used = later.used;
          };
    }

    pub annotated-passed : StartsFrom (run_end r) (drop here.lent.place x.lent.runs)
        → IsAnnotatedOn r s here.annotated.place x.annotated.runs
        → IsPassed x r (record here { annotated = record here.annotated { place = here.annotated.place + 1 } })
    annotated-passed h k = record {
      told = λ f a b.
          let l = get_or x.annotated.runs here.annotated.place r in
          same2
          (λ (o p : Option Row). row_told o p (run_map advance_row x.shared.runs f)
          (run_map advance_row x.used.runs f))
          (on-some x.annotated.runs r.pages.first.0 here.annotated.place f carried.annotated.near a r r.pages k.on a b)
          (clear-none x.lent.runs r.pages.first.0 here.lent.place f carried.lent.near a (run_end r) loans h b)
          ∙ ap (λ (u : Usage). row_with l.value.owner.0 None u) (is-steady f a b).usage
          ∙ sym (ap (λ (v : Row). advance_row v (f - r.pages.first.0)) (k.same r));
      carried =
          record {
            annotated = carried-on-one x.annotated.runs r here.annotated r.pages carried.annotated k.on;
            lent = later.lent;
            shared = later.shared;
            used = later.used;
          };
    }

pub near-later : (a b : ℕ) (n : Near) (x : Lists) → a ≤ b → AreNear a n x → AreNear b n x
near-later a b n x h near =
    record {
      carried = all-later a b n.stands x h near.carried;
      quiet = steady-later a b (quiet_to n.quiet) x h near.quiet;
    }
