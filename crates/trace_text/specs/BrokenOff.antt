-- Laws of reports: what a report that broke off says of its trace, and which step lines are
-- answered.
use Rattle.std.specs.Prelude.{◌≡◌, ◌≤◌, ℕ, List, ◌++◌, length, map, take, Some}
use Rattle.call_table.specs.declared.reply.Reply.{Reply}
use Rattle.call_table.specs.declared.step.Step.{Step}
use Rattle.trace_reader.specs.Reading.{lines_of}
use Rattle.trace_reader.specs.declared.outcome.Outcome.{Outcome}
use Rattle.trace_reader.specs.declared.outcome.Outcome.TheVariants as outcomes
use Rattle.trace_text.specs.declared.report.ReportLine.{ReportLine}
use Rattle.trace_text.specs.Laws.{reported_replies, steps_asked}
use Rattle.trace_text.specs.Oracles.{Gives}
use Rattle.trace_text.specs.Replay.{IsBeginning, IsBegun, IsReport}
use Rattle.trace_text.specs.Session.{Standing, at_start}
use Rattle.trace_text.specs.Texts.{text_of_report}

-- the CPUs of replies, and of steps
abbrev pub replying : List (ℕ × Reply) → List ℕ
replying replies = map (λ r. r.0) replies

abbrev pub asking : List (ℕ × Step) → List ℕ
asking steps = map (λ s. s.0) steps

module _ (gives : Gives) where
  -- lines that are the report of the first lines of a trace, but for one line more at most
  pub record ReportsFront (number : ℕ) (start : Standing) (trace : List (List ℕ))
      (lines : List ReportLine) : Type 0 where
    pub front : List (List ℕ)
    pub rest : List (List ℕ)
    pub parts : trace ≡ front ++ rest
    pub last : List ReportLine
    pub few : length last ≤ 1
    pub outcome : Outcome
    pub report : IsReport gives number start front (lines ++ last) outcome

  -- a report that may break off after each line of the trace is the report of the lines before,
  -- except for its last line
  abbrev pub BeginningReports : Type 0
  BeginningReports =
      (number : ℕ) (start : Standing) (trace : List (List ℕ)) (lines : List ReportLine)
      → IsBeginning gives number start trace lines
      → ReportsFront number start trace lines

  -- bytes that were written: a front of the text of the report of the first lines of a trace
  pub record WritesReport (trace old new : List ℕ) : Type 0 where
    pub front : List (List ℕ)
    pub rest : List (List ℕ)
    pub parts : lines_of trace ≡ front ++ rest
    pub lines : List ReportLine
    pub outcome : Outcome
    pub report : IsReport gives 1 at_start front lines outcome
    pub count : ℕ
    pub written : new ≡ old ++ take count (text_of_report lines)

  -- what a replay wrote before it failed
  abbrev pub BegunWrites : Type 0
  BegunWrites =
      (trace old new : List ℕ)
      → IsBegun gives (Some trace) (Some old) (Some new)
      → WritesReport trace old new

  -- the replies of a report are those of the trace's first step lines, CPU for CPU
  abbrev pub FirstAnswered : Type 0
  FirstAnswered =
      (trace : List (List ℕ)) (reported : List ReportLine) (outcome : Outcome)
      → IsReport gives 1 at_start trace reported outcome
      → (left : List ℕ)
      × (asking (steps_asked trace) ≡ replying (reported_replies reported) ++ left)

  -- and if it ends without a fault, of all of them
  abbrev pub AllAnswered : Type 0
  AllAnswered =
      (trace : List (List ℕ)) (reported : List ReportLine) (outcome : Outcome)
      → IsReport gives 1 at_start trace reported outcome
      → (outcome ≡ outcomes.Fault → ⊥)
      → asking (steps_asked trace) ≡ replying (reported_replies reported)
