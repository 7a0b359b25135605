-- One line of a trace, carried out and reported.
use Rattle.std.specs.Prelude.{◌≡◌, ◌⊎◌, ℕ, ◌≤◌, List, [], ◌∷◌, length, take, Option, Some, None, Ok, Err, IsOk}
use Rattle.std.specs.Io.KnownBytes.{Appends}
use Rattle.trace_reader.specs.declared.outcome.Outcome.{Outcome}
use Rattle.trace_reader.specs.declared.outcome.Outcome.TheVariants as outcomes
use Rattle.trace_text.specs.declared.report.ReportLine.{ReportLine}
use Rattle.trace_text.specs.declared.report.ReportLine.TheVariants as report
use Rattle.trace_text.specs.declared.session.Stop.TheVariants as stops
use Rattle.trace_text.specs.Reports.{Doing}
use Rattle.trace_text.specs.Session.{Answer}
use Rattle.trace_text.specs.Texts.{text_of_report}

-- the text that an answer writes, and the outcome if it ends the run
abbrev pub Writes : ℕ → Answer → Option (List ℕ) → Option (List ℕ) → Option Outcome → Type 0
Writes number (Err (stops.Fault fault)) old new ended =
    Appends old new (text_of_report (report.Fault number fault ∷ []))
    × (ended ≡ Some outcomes.Fault)
Writes number (Err stops.NoMemory) old new ended = ⊥
Writes number (Ok told) old new ended = Appends old new (text_of_report told) × (ended ≡ None)

-- the lines of the report that an answer makes
abbrev pub reported_lines : ℕ → Answer → List ReportLine
reported_lines number (Err (stops.Fault fault)) = report.Fault number fault ∷ []
reported_lines number (Err stops.NoMemory) = []
reported_lines number (Ok told) = told

-- a front of the text of lines was written
abbrev pub WritesFront : List ReportLine → Option (List ℕ) → Option (List ℕ) → Type 0
WritesFront lines old new = (count : ℕ) × Appends old new (take count (text_of_report lines))

-- lines were written, and the run ends with an outcome
abbrev pub EndsWith : List ReportLine → Outcome → Option (List ℕ) → Option (List ℕ) → Outcome
    → Type 0
EndsWith lines ended old new outcome = (outcome ≡ ended) × Appends old new (text_of_report lines)

-- of what lines do
module _ {S : Type 0} (does : Doing S) where
  -- a line that was carried out, from one standing to another, and reported
  pub record Plays (number : ℕ) (line : List ℕ) (before after : S) (old new : Option (List ℕ))
      (ended : Option Outcome) : Type 0 where
    pub answer : Answer
    pub runs : does number line before answer after
    pub writes : Writes number answer old new ended

  -- a line that was carried out, of whose report a front was written
  pub record PlaysFront (number : ℕ) (line : List ℕ) (before : S)
      (old new : Option (List ℕ)) : Type 0 where
    pub answer : Answer
    pub after : S
    pub runs : does number line before answer after
    pub writes : WritesFront (reported_lines number answer) old new

  -- what lines do of which 257 bytes are enough, since longer ones go no further
  pub record Enough : Type 0 where
    pub front : (number : ℕ) (whole : List ℕ) (old : S) (answer : Answer) (new : S)
        → does number (take 257 whole) old answer new
        → does number whole old answer new
    pub short : (number : ℕ) (whole : List ℕ) (old : S) (answer : Answer) (new : S)
        → does number whole old answer new
        → IsOk answer
        → length whole ≤ 256

-- of how a report ends
module _ {S : Type 0} (ends : S → List ReportLine → Outcome → Type 0) where
  -- its end was written
  abbrev pub WritesEnd : S → Option (List ℕ) → Option (List ℕ) → Outcome → Type 0
  WritesEnd standing old new outcome =
      (lines : List ReportLine)
      × ends standing lines outcome
      × Appends old new (text_of_report lines)

  -- nothing of it was written, or a front
  abbrev pub WritesEndFront : S → Option (List ℕ) → Option (List ℕ) → Type 0
  WritesEndFront standing old new =
      (new ≡ old)
      ⊎ ((lines : List ReportLine)
      × (outcome : Outcome)
      × ends standing lines outcome
      × WritesFront lines old new)
