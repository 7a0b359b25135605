-- The row of a frame by four lists, and pieces of frames along which they go on.
use Rattle.std.specs.Prelude.{◌≡◌, ℕ, ◌+◌, ◌-◌, ◌<◌, ◌≤◌, Bool, true, false, ◌==◌, List, take, length, get_or, Option, Some, None, ◌&&◌, if◌then◌else◌}
use Rattle.page_state.specs.declared.entry.PageRange.{PageRange}
use Rattle.page_state.specs.declared.layout.Region.{Region}
use Rattle.page_state.specs.declared.row.Lent.{Lent}
use Rattle.page_state.specs.declared.row.Row.{Row}
use Rattle.page_state.specs.declared.row.Usage.{Usage}
use Rattle.page_state.specs.declared.row.Usage.TheVariants.{Plain}
use Rattle.page_state.specs.Regions.{is_in_range, is_memory_kind}
use Rattle.page_state.specs.Rows.{advance_row, HasPageBelow}
use Rattle.run_list.specs.declared.run.Run.{Run}
use Rattle.run_list.specs.Runs.{run_end, run_map, option_advance, value_on, EndBefore, AreInReach}
use Rattle.run_list.specs.Parts.{IsEndedAt}
use Rattle.ghost_rows.specs.declared.rows.kept.Near.{Near}
use Rattle.ghost_rows.specs.declared.rows.pieces.Lists.{Lists}
use Rattle.ghost_rows.specs.declared.rows.pieces.Stand.{Stand}
use Rattle.ghost_rows.specs.declared.rows.pieces.Stands.{Stands}
use Rattle.ghost_rows.specs.declared.rows.pieces.Steady.{Steady}

-- to whom a row's frame is lent
abbrev pub lent_told : Option Row → Option Lent
lent_told None = None
lent_told (Some r) = r.lent

-- the use of a row's frame
abbrev pub usage_told : Option Row → Usage
usage_told None = Plain
usage_told (Some r) = r.usage

-- the number of the component to which a frame is lent, or else the host's
abbrev pub number_told : Option Lent → ℕ
number_told None = 0
number_told (Some x) = x.owner.0

-- lent to the host
abbrev pub is_of_host : Option Lent → Bool
is_of_host None = false
is_of_host (Some x) = x.owner.0 == 0

-- the owner of the annotation; without one, the guest that shares the frame if the host borrows it,
-- else the host
abbrev pub owner_told : Option Row → Option Row → Option Row → ℕ
owner_told (Some r) lent shared = r.owner.0
owner_told None lent shared =
    elim (is_of_host (lent_told lent)) [ true ↦ number_told (lent_told shared) | false ↦ 0 ]

-- the row of a frame by how it is annotated, lent, shared and used
abbrev pub row_told : Option Row → Option Row → Option Row → Option Row → Row
row_told annotated lent shared used =
    record {
      owner = record { 0 = owner_told annotated lent shared };
      lent = lent_told lent;
      usage = usage_told used;
    }

-- the row of a frame by the lists
abbrev pub told : Lists → ℕ → Row
told x f =
    row_told (run_map advance_row x.annotated.runs f) (run_map advance_row x.lent.runs f)
    (run_map advance_row x.shared.runs f) (run_map advance_row x.used.runs f)

-- the lists give each frame of a run the row of the run
abbrev pub IsListedAs : Lists → Run Row → Type 0
IsListedAs x r = (f : ℕ) → r.pages.first.0 ≤ f → f < run_end r → told x f ≡ value_on advance_row r f

-- the frames of a region get the rows that follow from the lists if it is a region of memory, else
-- none; the others keep theirs
abbrev pub IsRegionAdded : Lists → Region → List (Run Row) → List (Run Row) → Type 0
IsRegionAdded x region old new =
    (f : ℕ)
    → run_map advance_row new f
    ≡ (if is_in_range region.pages f
    then (if is_memory_kind region.kind then Some (told x f) else None)
    else run_map advance_row old f)

-- from a frame up to another a list goes on as it begins
abbrev pub GoesOn : List (Run Row) → ℕ → ℕ → Type 0
GoesOn runs low high =
    (f : ℕ)
    → low ≤ f
    → f < high
    → run_map advance_row runs f
    ≡ option_advance advance_row (run_map advance_row runs low) (f - low)

-- a row of an owner, a loan and a use
abbrev pub row_with : ℕ → Option Lent → Usage → Row
row_with owner lent usage = record { owner = record { 0 = owner }; lent = lent; usage = usage }

-- the owner of a frame that is lent and not annotated: the sharer if the host borrows it, else the
-- host
abbrev pub lender : Option Lent → ℕ → ℕ
lender lent sharer = elim (is_of_host lent) [ true ↦ sharer | false ↦ 0 ]

-- the sharer and the use of a frame follow from the lists
pub record IsSteady (x : Lists) (s : Steady) (f : ℕ) : Type 0 where
  pub sharer : number_told (lent_told (run_map advance_row x.shared.runs f)) ≡ s.sharer.0
  pub usage : usage_told (run_map advance_row x.used.runs f) ≡ s.usage

-- and so of each frame from one on
abbrev pub AreSteady : ℕ → Steady → Lists → Type 0
AreSteady frame s x = (f : ℕ) → frame ≤ f → f < s.until → IsSteady x s f

-- no frame is shared, and none is in use
abbrev pub quiet_to : ℕ → Steady
quiet_to until = record { until = until; sharer = record { 0 = 0 }; usage = Plain }

-- in no use
abbrev pub is_plain : Usage → Bool
is_plain Plain = true
is_plain other = false

-- the frames aren't shared, and in no use
abbrev pub is_quiet : Steady → Bool
is_quiet s = s.sharer.0 == 0 && is_plain s.usage

-- the numbers of each list are small
pub record AreReached (x : Lists) : Type 0 where
  pub annotated : AreInReach HasPageBelow x.annotated.runs
  pub lent : AreInReach HasPageBelow x.lent.runs
  pub shared : AreInReach HasPageBelow x.shared.runs
  pub used : AreInReach HasPageBelow x.used.runs

-- the runs before a place end before a page, and those from there on may
pub record IsNear (page place : ℕ) (rs : List (Run Row)) : Type 0 where
  pub within : place ≤ length rs
  pub front : EndBefore page (take place rs)

-- a run neither begins nor ends between two frames
pub record HasNoBound (low high : ℕ) (r : Run Row) : Type 0 where
  pub begins : r.pages.first.0 < high → r.pages.first.0 ≤ low
  pub ends : run_end r < high → run_end r ≤ low

-- the place of a list at a frame
pub record IsStanding (frame : ℕ) (s : Stand) (rs : List (Run Row)) : Type 0 where
  pub at : IsEndedAt (frame + 1) s.place rs
  pub more : frame < s.until
  pub bound : (d : Run Row) → s.place < length rs → HasNoBound frame s.until (get_or rs s.place d)
  pub inside : s.inside ≡ true → s.place < length rs
  pub begun : s.inside ≡ true → (d : Run Row) → (get_or rs s.place d).pages.first.0 ≤ frame
  pub outside : s.inside ≡ false
      → (d : Run Row)
      → s.place < length rs
      → frame < (get_or rs s.place d).pages.first.0

-- the same, if the list goes on so far from its place before
pub record IsCarried (frame : ℕ) (s : Stand) (rs : List (Run Row)) : Type 0 where
  pub near : IsNear (frame + 1) s.place rs
  pub stays : frame < s.until → IsStanding frame s rs

-- the place of each list at a frame
pub record AreStanding (frame : ℕ) (s : Stands) (x : Lists) : Type 0 where
  pub annotated : IsStanding frame s.annotated x.annotated.runs
  pub lent : IsStanding frame s.lent x.lent.runs
  pub shared : IsStanding frame s.shared x.shared.runs
  pub used : IsStanding frame s.used x.used.runs

-- the place of each at a frame before
pub record AreCarried (frame : ℕ) (s : Stands) (x : Lists) : Type 0 where
  pub annotated : IsCarried frame s.annotated x.annotated.runs
  pub lent : IsCarried frame s.lent x.lent.runs
  pub shared : IsCarried frame s.shared x.shared.runs
  pub used : IsCarried frame s.used x.used.runs

-- the run at a place has these frames and no others
pub record IsOn (pages : PageRange) (place : ℕ) (rs : List (Run Row)) : Type 0 where
  pub within : place < length rs
  pub first : (d : Run Row) → (get_or rs place d).pages.first.0 ≡ pages.first.0
  pub count : (d : Run Row) → (get_or rs place d).pages.count ≡ pages.count

-- a run has exactly the frames of the annotation at a place, and its value
pub record IsAnnotatedOn (r : Run Row) (s : Steady) (place : ℕ) (rs : List (Run Row)) : Type 0 where
  pub on : IsOn r.pages place rs
  pub same : (d : Run Row) → r.value ≡ row_with (get_or rs place d).value.owner.0 None s.usage

-- a run has exactly the frames of the loan at a place, and its value
pub record IsLentOn (r : Run Row) (s : Steady) (place : ℕ) (rs : List (Run Row)) : Type 0 where
  pub on : IsOn r.pages place rs
  pub same : (d : Run Row)
      → r.value
      ≡ row_with (lender (get_or rs place d).value.lent s.sharer.0)
      (get_or rs place d).value.lent s.usage

-- a run that the lists give as a whole: their places go on to its end
pub record IsPassed (x : Lists) (r : Run Row) (s : Stands) : Type 0 where
  pub told : IsListedAs x r
  pub carried : AreCarried (run_end r) s x

-- the place of each list at an earlier frame, and the frame up to which none is shared or in use
-- from there on
pub record AreNear (frame : ℕ) (n : Near) (x : Lists) : Type 0 where
  pub carried : AreCarried frame n.stands x
  pub quiet : AreSteady frame (quiet_to n.quiet) x
