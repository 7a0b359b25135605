-- Laws of drawings.
use Rattle.std.specs.Prelude.{◌≡◌, ℕ, List, Option}
use Rattle.trace_reader.specs.declared.outcome.Outcome.{Outcome}
use Rattle.trace_reader.specs.declared.outcome.Outcome.TheVariants as outcomes
use Rattle.trace_reader.specs.Reading.{lines_of}
use Rattle.trace_text.specs.declared.report.ReportLine.{ReportLine}
use Rattle.trace_text.specs.Oracles.{agreed}
use Rattle.trace_text.specs.Replay.{IsReport}
use Rattle.trace_text.specs.Session.{Standing, at_start}
use Rattle.trace_text.specs.Worlds.{Machine}
use Rattle.trace_draw.specs.declared.course.Ended.{Ended}
use Rattle.trace_draw.specs.declared.course.Ended.TheVariants.{Clean, Fault}
use Rattle.trace_draw.specs.Courses.{IsRunOf}
use Rattle.trace_draw.specs.Snapshots.{ReportsMachine}

-- a machine has one text
abbrev pub OneText : Type 0
OneText =
    (machine : Option Machine) (text other : List ℕ)
    → ReportsMachine machine text
    → ReportsMachine machine other
    → text ≡ other

-- the outcome of a report without a disagreement, by how the run ends
abbrev pub outcome_by : Ended → Outcome
outcome_by Clean = outcomes.Clean
outcome_by (Fault line fault) = outcomes.Fault

-- the run of a trace that is drawn is one that a replay reports
abbrev pub RunIsReplayed : Type 0
RunIsReplayed =
    (trace : List ℕ) (standing : Standing) (ended : Ended)
    → IsRunOf trace standing ended
    → (reported : List ReportLine)
    × IsReport agreed 1 at_start (lines_of trace) reported (outcome_by ended)
