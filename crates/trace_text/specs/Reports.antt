-- Reports of programs that carry a trace out line by line (profile).
use Rattle.std.specs.Prelude.{◌≡◌, ◌⊎◌, ℕ, ◌+◌, ◌<◌, ◌≤◌, List, [], ◌∷◌, ◌++◌, Option, Ok, Err, IfSome}
use Rattle.std.specs.Io.KnownBytes.{Appends}
use Rattle.trace_text.specs.declared.fault.Fault.TheVariants as faults
use Rattle.trace_reader.specs.Reading.{lines_of}
use Rattle.trace_reader.specs.declared.outcome.Outcome.{Outcome}
use Rattle.trace_reader.specs.declared.outcome.Outcome.TheVariants as outcomes
use Rattle.trace_text.specs.declared.report.ReportLine.{ReportLine}
use Rattle.trace_text.specs.declared.report.ReportLine.TheVariants as report
use Rattle.trace_text.specs.declared.session.Stop.TheVariants as stops
use Rattle.trace_text.specs.Session.{Answer}
use Rattle.trace_text.specs.Texts.{text_of_report}

-- the lines of a report that an answer begins: a fault ends it, otherwise the report of the rest
-- follows
abbrev pub Begins : ℕ → Answer → (List ReportLine → Outcome → Type 0) → List ReportLine → Outcome
    → Type 0
Begins number (Err (stops.Fault fault)) follows lines outcome =
    (lines ≡ report.Fault number fault ∷ []) × (outcome ≡ outcomes.Fault)
Begins number (Err stops.NoMemory) follows lines outcome = ⊥
Begins number (Ok told) follows lines outcome =
    (more : List ReportLine) × (lines ≡ told ++ more) × follows more outcome

-- the effect of a line of a trace, by its number, from one standing to another
abbrev pub Doing : Type 0 → Type 1
Doing S = ℕ → List ℕ → S → Answer → S → Type 0

-- the effect of a line, given its number: the first 1,048,576 lines are carried out, the next is a
-- fault
pub record IsPlayed {S : Type 0} (does : Doing S) (number : ℕ) (line : List ℕ) (old : S)
    (answer : Answer) (new : S) : Type 0 where
  pub runs : number ≤ 1048576 → does number line old answer new
  pub past : 1048576 < number → (answer ≡ Err (stops.Fault faults.Lines)) × (new ≡ old)

-- reports of a program: the effect of a line, and the end of a report after a whole trace was
-- carried out
module _ {S : Type 0} (does : Doing S) (ends : S → List ReportLine → Outcome → Type 0) where
  -- the report of a trace's lines from a number on: line after line, and then its end
  abbrev pub IsReport : ℕ → S → List (List ℕ) → List ReportLine → Outcome → Type 0
  IsReport number old [] lines outcome = ends old lines outcome
  IsReport number old (line ∷ rest) lines outcome =
      (answer : Answer) × (new : S) × IsPlayed does number line old answer new
      × Begins number answer (λ more end. IsReport (number + 1) new rest more end) lines outcome

  -- the lines of it so far: a report that may break off after each line of the trace
  abbrev pub IsBeginning : ℕ → S → List (List ℕ) → List ReportLine → Type 0
  IsBeginning number old [] lines = (lines ≡ []) ⊎ ((outcome : Outcome) × ends old lines outcome)
  IsBeginning number old (line ∷ rest) lines =
      (lines ≡ [])
      ⊎ ((answer : Answer)
      × (new : S)
      × (outcome : Outcome)
      × IsPlayed does number line old answer new
      × Begins number answer (λ more end. IsBeginning (number + 1) new rest more) lines outcome)

  -- the written text is a report, and, if the bytes of the trace are known, that of its lines
  pub record IsWritten (start : S) (bytes old new : Option (List ℕ))
      (outcome : Outcome) : Type 0 where
    pub lines : List ReportLine
    pub written : Appends old new (text_of_report lines)
    pub report : IfSome bytes (λ all. IsReport 1 start (lines_of all) lines outcome)

  -- the written text is a front of the text of lines, and, if the bytes of the trace are known,
  -- these are a beginning of its report
  pub record IsWriteBegun (start : S) (bytes old new : Option (List ℕ)) : Type 0 where
    pub lines : List ReportLine
    pub front : List ℕ
    pub behind : List ℕ
    pub text : text_of_report lines ≡ front ++ behind
    pub written : Appends old new front
    pub report : IfSome bytes (λ all. IsBeginning 1 start (lines_of all) lines)
