-- Laws of the reports that are compared with expectations.
use Rattle.std.specs.Prelude.{ℕ, ◌≤◌, List, ◌++◌, length, Option}
use Rattle.ghost_judge.specs.declared.disagreement.Disagreement.{Disagreement}
use Rattle.trace_reader.specs.declared.outcome.Outcome.{Outcome}
use Rattle.trace_text.specs.declared.report.ReportLine.{ReportLine}
use Rattle.trace_text.specs.Oracles.{audited_lines}
use Rattle.trace_text.specs.Reports.{IsReport}
use Rattle.trace_audit.specs.Audited.{Audited, Ends, RunsLine, nothing_audited}
use Rattle.trace_check.specs.Laws.{reported_by}
use Rattle.trace_cases.specs.Audits.{Runs}

-- the reports of lines from a number on, and the finding after them, are the report of an audit,
-- except for one last line at most
pub record IsReported (A : Type 0) (number : ℕ) (old : Audited A) (lines : List (List ℕ))
    (told : List (List ReportLine)) (found : Option Disagreement) : Type 0 where
  pub last : List ReportLine
  pub few : length last ≤ 1
  pub outcome : Outcome
  pub report : IsReport (RunsLine {A = A}) Ends number old lines
      (reported_by told ++ (audited_lines found ++ last)) outcome

-- so it is of the lines of a trace
abbrev pub AuditIsReported : Type 0 → Type 0
AuditIsReported A =
    (lines : List (List ℕ)) (told : List (List ReportLine)) (found : Option Disagreement)
    → Runs {A = A} 1 nothing_audited lines told found
    → IsReported A 1 nothing_audited lines told found
