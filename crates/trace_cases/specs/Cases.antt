-- What `check` says of any trace, and how its expectations are filled in (profile).
use Rattle.std.specs.Prelude.{◌≡◌, ℕ, ◌+◌, Bool, true, false, List, Option, Some, None}
use Rattle.trace_reader.specs.Reading.{lines_of}
use Rattle.trace_text.specs.declared.report.ReportLine.{ReportLine}
use Rattle.trace_check.specs.declared.checking.Checked.{Checked}
use Rattle.trace_check.specs.Checks.{Checks, IsChecked}
use Rattle.trace_check.specs.Records.{IsRecord, recorded_text}
use Rattle.trace_cases.specs.Audits.{IsAuditReported}
use Rattle.trace_cases.specs.RaceChecks.{IsRaceChecked, IsRaceRecord}
use Rattle.trace_cases.specs.Ways.{has_poke, start_at}

-- the answer to lines that are audited
pub record IsAuditChecked (A : Type 0) (name : List ℕ) (lines : List (List ℕ))
    (checked : Checked) : Type 0 where
  pub told : List (List ReportLine)
  pub audited : IsAuditReported A lines told
  pub checks : Checks name lines told checked

-- a text is the record of the bytes of a trace that is audited
pub record IsAuditRecord (A : Type 0) (trace text : List ℕ) : Type 0 where
  pub told : List (List ReportLine)
  pub audited : IsAuditReported A (lines_of trace) told
  pub text_is : text ≡ recorded_text trace told

-- the answer to the bytes of a trace without a poke, by how many lines are before `start`: the
-- steps after it may be made in any order
abbrev pub RunChecks : Option ℕ → List ℕ → List ℕ → Checked → Type 0
RunChecks None name trace checked = IsChecked name trace checked
RunChecks (Some place) name trace checked = IsRaceChecked name trace (place + 1) checked

-- and to those of any trace: one with a poke is audited
abbrev pub ChecksBy : Bool → Type 0 → List ℕ → List ℕ → Checked → Type 0
ChecksBy true A name trace checked = IsAuditChecked A name (lines_of trace) checked
ChecksBy false A name trace checked = RunChecks (start_at (lines_of trace)) name trace checked

abbrev pub IsCaseChecked : Type 0 → List ℕ → List ℕ → Checked → Type 0
IsCaseChecked A name trace = ChecksBy (has_poke (lines_of trace)) A name trace

-- their record
abbrev pub RunRecords : Option ℕ → List ℕ → List ℕ → Type 0
RunRecords None trace text = IsRecord trace text
RunRecords (Some place) trace text = IsRaceRecord trace (place + 1) text

abbrev pub RecordsBy : Bool → Type 0 → List ℕ → List ℕ → Type 0
RecordsBy true A trace text = IsAuditRecord A trace text
RecordsBy false A trace text = RunRecords (start_at (lines_of trace)) trace text

abbrev pub IsCaseRecord : Type 0 → List ℕ → List ℕ → Type 0
IsCaseRecord A trace = RecordsBy (has_poke (lines_of trace)) A trace
