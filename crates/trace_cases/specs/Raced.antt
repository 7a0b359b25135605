-- What the lines of a trace report whose steps after `start` may be made in any order (profile).
use Rattle.std.specs.Prelude.{◌≡◌, ℕ, [], List, take, Option, Some, None, Result, Ok, Err}
use Rattle.race_outcomes.specs.declared.finding.Outcome.{Outcome}
use Rattle.trace_race.specs.Courses.{Asking}
use Rattle.trace_text.specs.declared.fault.Fault.{Fault}
use Rattle.trace_text.specs.declared.report.ReportLine.{ReportLine}
use Rattle.trace_text.specs.Session.{at_start}
use Rattle.trace_check.specs.Runs.{Runs}
use Rattle.trace_check.specs.View.{told_in}
use Rattle.trace_outcomes.specs.declared.finding.Found.{Found}
use Rattle.trace_outcomes.specs.declared.finding.Found.TheVariants as founds
use Rattle.trace_outcomes.specs.Finds.{Finds}
use Rattle.trace_outcomes.specs.Races.{raced_of}
use Rattle.trace_cases.specs.declared.races.Raced.{Raced}
use Rattle.trace_cases.specs.Races.{faulted, padded, silences}

-- lines report this, and no step is made after `start`
pub record IsAlone (told : List (List ReportLine)) (r : Raced) : Type 0 where
  pub told_is : told_in r.told.items ≡ told
  pub steps : r.steps.items ≡ []
  pub found : r.found.items ≡ []
  pub many : r.many ≡ None

module _ (lines : List (List ℕ)) (count : ℕ) where
  -- the first `count` lines report the same as in a replay
  pub record IsRun (told : List (List ReportLine)) : Type 0 where
    pub own : List (List ReportLine)
    pub runs : Runs 1 at_start (take count lines) own
    pub told_is : told ≡ padded count lines own

  -- and the steps after `start` have these outcomes, or too many orders
  pub record IsRaced (a : Asking) (found : List Outcome) (many : Option ℕ)
      (r : Raced) : Type 0 where
    pub run : IsRun (told_in r.told.items)
    pub steps : r.steps.items ≡ raced_of a
    pub found_is : r.found.items ≡ found
    pub many_is : r.many ≡ many

  -- by the finding
  abbrev pub RacedBy : Asking → Found → Raced → Type 0
  RacedBy a (founds.All o) = IsRaced a o.found.items None
  RacedBy a (founds.TooMany made) = IsRaced a [] (Some made)
  RacedBy a founds.Idle = IsAlone (silences lines)
  RacedBy a (founds.Fault line fault) = IsAlone (faulted 1 line fault lines)

  pub record RacedIn (a : Asking) (r : Raced) : Type 0 where
    pub found : Found
    pub finds : Finds 100000 a found
    pub raced : RacedBy a found r

  -- by the whole trace's requests; its first `count` lines come before the steps that may be made
  -- in any order
  abbrev pub RacedOf : Result Asking (ℕ × Fault) → Raced → Type 0
  RacedOf (Err told) r = IsAlone (faulted 1 told.0 told.1 lines) r
  RacedOf (Ok a) r = RacedIn a r
