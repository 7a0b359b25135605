-- What `check` says of a trace whose steps after `start` may be made in any order, and how its
-- expectations are filled in (profile).
use Rattle.std.specs.Prelude.{◌≡◌, ℕ, ◌+◌, ◌==◌, false, List, [], ◌∷◌, ◌++◌, is_some, MatchOption, if◌then◌else◌}
use Rattle.race_outcomes.specs.declared.finding.Outcome.{Outcome}
use Rattle.trace_faults.specs.Beside.{file_line}
use Rattle.trace_race.specs.declared.course.Asked.{Asked}
use Rattle.trace_race.specs.Courses.{course_of, nothing_asked}
use Rattle.trace_reader.specs.Reading.{lines_of}
use Rattle.trace_text.specs.declared.report.ReportLine.{ReportLine}
use Rattle.trace_check.specs.declared.checking.Checked.{Checked}
use Rattle.trace_check.specs.Checks.{ChecksMissed}
use Rattle.trace_check.specs.Expectations.{comment, count_expected, expectation}
use Rattle.trace_check.specs.Records.{is_lacking, joined, recorded_at, without_own}
use Rattle.trace_check.specs.View.{told_in}
use Rattle.trace_outcomes.specs.Texts.{kinds_at, kinds_text}
use Rattle.trace_cases.specs.declared.races.Raced.{Raced}
use Rattle.trace_cases.specs.Raced.{RacedOf}
use Rattle.trace_cases.specs.Races.{race_misses, too_many_words}

-- the orders of `made` steps lead to too many points
pub record ChecksMany (name : List ℕ) (lines : List (List ℕ)) (made : ℕ)
    (checked : Checked) : Type 0 where
  pub text : checked.text.items ≡ file_line name (too_many_words made)
  pub expected : checked.expected ≡ count_expected lines
  pub wrong : checked.wrong ≡ 0
  pub clean : checked.clean ≡ false

-- the answer to lines that report this
abbrev pub ChecksRaced : List ℕ → List (List ℕ) → Raced → Checked → Type 0
ChecksRaced name lines r checked =
    MatchOption r.many
    (ChecksMissed name lines (told_in r.told.items)
    (race_misses lines (told_in r.told.items) r.steps.items r.found.items) checked)
    (λ made. ChecksMany name lines made checked)

-- and for the bytes of a trace, whose first `count` lines come before the steps that may be made in
-- any order
pub record IsRaceChecked (name trace : List ℕ) (count : ℕ) (checked : Checked) : Type 0 where
  pub raced : Raced
  pub is : RacedOf (lines_of trace) count (course_of 1 nothing_asked (lines_of trace)) raced
  pub checks : ChecksRaced name (lines_of trace) raced checked

-- the expectation of a step with these replies, if it has any, and the expectation is neither too
-- long nor has a stray byte
abbrev pub note_of : List (List ℕ) → List (List ℕ)
note_of [] = []
note_of (kind ∷ more) =
    if is_some (expectation (comment (kinds_text (kind ∷ more))))
    then comment (kinds_text (kind ∷ more))
    ∷ []
    else []

-- that of the step on the line of a number, which is one of these, from a place on
abbrev pub notes_from : List Outcome → ℕ → ℕ → List Asked → List (List ℕ)
notes_from found number place [] = []
notes_from found number place (a ∷ more) =
    if a.line == number then note_of (kinds_at found place)
    else notes_from found number (place + 1) more

-- the line of a number, which reports this, and its expectations
abbrev pub race_recorded_at : List Asked → List Outcome → ℕ → List ℕ → List ReportLine
    → List (List ℕ)
race_recorded_at steps found number line reported =
    recorded_at line reported
    ++ (if is_some (expectation line) then [] else notes_from found number 0 steps)

-- lines from a number on, of which the first report this each
abbrev pub race_recorded : List Asked → List Outcome → ℕ → List (List ℕ) → List (List ReportLine)
    → List (List ℕ)
race_recorded steps found number lines [] = without_own lines
race_recorded steps found number [] (reported ∷ more) = []
race_recorded steps found number (line ∷ rest) (reported ∷ more) =
    race_recorded_at steps found number line reported
    ++ race_recorded steps found (number + 1) rest more

-- the trace of these bytes
abbrev pub race_text : List ℕ → List Asked → List Outcome → List (List ReportLine) → List ℕ
race_text trace steps found told = let lines = race_recorded steps found 1 (lines_of trace) told in
    joined (is_lacking trace lines) lines

-- a text is its record
pub record IsRaceRecord (trace : List ℕ) (count : ℕ) (text : List ℕ) : Type 0 where
  pub raced : Raced
  pub is : RacedOf (lines_of trace) count (course_of 1 nothing_asked (lines_of trace)) raced
  pub text_is : text
      ≡ race_text trace raced.steps.items raced.found.items (told_in raced.told.items)
