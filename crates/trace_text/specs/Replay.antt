-- The report of a replay (profile).
use Rattle.std.specs.Prelude.{◌≡◌, ℕ, zero, suc, List, [], ◌∷◌, Option}
use Rattle.trace_reader.specs.declared.outcome.Outcome.{Outcome}
use Rattle.trace_reader.specs.declared.outcome.Outcome.TheVariants as outcomes
use Rattle.trace_text.specs.declared.report.ReportLine.{ReportLine}
use Rattle.trace_text.specs.declared.report.ReportLine.TheVariants as report
use Rattle.trace_text.specs.Oracles.{Gives}
use Rattle.trace_text.specs.Reports as reports
use Rattle.trace_text.specs.Session.{Standing, Answer, RunsLine, at_start}

-- the outcome of a report without a fault
abbrev pub outcome_of : ℕ → Outcome
outcome_of zero = outcomes.Clean
outcome_of (suc more) = outcomes.Disagreed

-- the last line of a whole trace
abbrev pub end_line : Standing → ReportLine
end_line old = report.End old.steps old.disagreements

-- a report ends with the numbers of step lines and of disagreements
abbrev pub Ends : Standing → List ReportLine → Outcome → Type 0
Ends old lines outcome = (lines ≡ end_line old ∷ []) × (outcome ≡ outcome_of old.disagreements)

-- reports of replays that ask an oracle
module _ (gives : Gives) where
  -- what a line does, given its number
  abbrev pub IsPlayed : ℕ → List ℕ → Standing → Answer → Standing → Type 0
  IsPlayed = reports.IsPlayed (RunsLine gives)

  -- the report of a trace's lines from a number on
  abbrev pub IsReport : ℕ → Standing → List (List ℕ) → List ReportLine → Outcome → Type 0
  IsReport = reports.IsReport (RunsLine gives) Ends

  -- a number of its lines: a report that may break off after each line of the trace
  abbrev pub IsBeginning : ℕ → Standing → List (List ℕ) → List ReportLine → Type 0
  IsBeginning = reports.IsBeginning (RunsLine gives) Ends

  -- the written text is a report of the trace of these bytes
  abbrev pub IsReplayed : Option (List ℕ) → Option (List ℕ) → Option (List ℕ) → Outcome → Type 0
  IsReplayed = reports.IsWritten (RunsLine gives) Ends at_start

  -- and a beginning of one
  abbrev pub IsBegun : Option (List ℕ) → Option (List ℕ) → Option (List ℕ) → Type 0
  IsBegun = reports.IsWriteBegun (RunsLine gives) Ends at_start
