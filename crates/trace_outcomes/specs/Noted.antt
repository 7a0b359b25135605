-- How code reads a report.
use Rattle.std.specs.Prelude.{◌≡◌, ℕ, List, length, Option, Some, None, Result, Ok, Err, Vec}
use Rattle.std.specs.Global.{Global}
use Rattle.trace_outcomes.specs.declared.observed.Report.{Report}
use Rattle.trace_outcomes.specs.declared.observed.Report.TheVariants as reports
use Rattle.trace_outcomes.specs.declared.observed.ReportFault.{ReportFault}
use Rattle.trace_outcomes.specs.Races.{Texts, texts_in}

-- the line is taken up, or has this fault
abbrev pub IsNoted : Result Texts ReportFault → List (Option (Vec ℕ Global)) → Option ReportFault
    → Type 0
IsNoted told new None = told ≡ Ok (texts_in new)
IsNoted told new (Some fault) = told ≡ Err fault

-- the replies of a report, or the place of its fault
abbrev pub IsReportOf : Result Texts (List ℕ) → Report → Type 0
IsReportOf told (reports.Texts texts) = told ≡ Ok (texts_in texts.items)
IsReportOf told (reports.Fault said) = told ≡ Err said.items

-- a report has an entry, a text or none, for each of `count` steps
abbrev pub IsCounted : ℕ → Report → Type 0
IsCounted count (reports.Texts texts) = length texts.items ≡ count
IsCounted count (reports.Fault said) = Unit {0}
