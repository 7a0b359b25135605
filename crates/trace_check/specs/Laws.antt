-- Laws of what traces report and of recorded traces.
use Rattle.std.specs.Prelude.{◌≡◌, ◌↔◌, ℕ, ◌<◌, ◌≤◌, true, List, [], ◌∷◌, ◌++◌, length, map}
use Rattle.trace_text.specs.declared.report.ReportLine.{ReportLine}
use Rattle.trace_reader.specs.Reading.{lines_of}
use Rattle.trace_reader.specs.declared.outcome.Outcome.{Outcome}
use Rattle.trace_text.specs.Oracles.{agreed}
use Rattle.trace_text.specs.Replay.{IsReport}
use Rattle.trace_text.specs.Session.{Standing, at_start}
use Rattle.trace_check.specs.declared.checking.Checked.{Checked}
use Rattle.trace_check.specs.Checks.{IsChecked, count_wrong, has_begun, sum_text}
use Rattle.trace_check.specs.Expectations.{count_expected}
use Rattle.trace_check.specs.Misses.{misses, rest_missed}
use Rattle.trace_check.specs.Records.{IsRecord, recorded, recorded_text}
use Rattle.trace_check.specs.Runs.{Runs}
use Rattle.trace_check.specs.Shown.{shown}

-- what lines report, one after another, as expectations have it
abbrev pub shown_report : List (List ReportLine) → List (List ℕ)
shown_report [] = []
shown_report (reported ∷ more) = map shown reported ++ shown_report more

-- lines that are carried out and report these texts, of which nothing is missed but lines that
-- aren't reached, and which are recorded as they are
pub record IsMet (lines : List (List ℕ)) (texts : List (List ℕ)) : Type 0 where
  pub told : List (List ReportLine)
  pub runs : Runs 1 at_start lines told
  pub texts_are : shown_report told ≡ texts
  pub met : misses lines told ≡ rest_missed lines told
  pub again : recorded lines told ≡ lines

-- so are the recorded lines of a trace, if both have no more than 1,048,576 lines
abbrev pub RecordedIsMet : Type 0
RecordedIsMet =
    (lines : List (List ℕ)) (told : List (List ReportLine))
    → Runs 1 at_start lines told
    → length lines ≤ 1048576
    → length (recorded lines told) ≤ 1048576
    → IsMet (recorded lines told) (shown_report told)

-- a trace is met: its lines are carried out, of its expectations none is missed but those of lines
-- that aren't reached, and it is recorded as it is
pub record IsTraceMet (trace : List ℕ) : Type 0 where
  pub told : List (List ReportLine)
  pub runs : Runs 1 at_start (lines_of trace) told
  pub met : misses (lines_of trace) told ≡ rest_missed (lines_of trace) told
  pub again : trace ≡ recorded_text trace told

-- so is each record of a trace, if both have no more than 1,048,576 lines
abbrev pub RecordIsMet : Type 0
RecordIsMet =
    (trace text : List ℕ)
    → IsRecord trace text
    → length (lines_of trace) ≤ 1048576
    → length (lines_of text) ≤ 1048576
    → IsTraceMet text

-- the lines of a report that lines of a trace make, one after another
abbrev pub reported_by : List (List ReportLine) → List ReportLine
reported_by [] = []
reported_by (reported ∷ more) = reported ++ reported_by more

-- the text is the report of a replay of these lines from a number on, but for at most one last line
pub record IsReplayReported (number : ℕ) (old : Standing) (lines : List (List ℕ))
    (told : List (List ReportLine)) : Type 0 where
  pub last : List ReportLine
  pub few : length last ≤ 1
  pub outcome : Outcome
  pub report : IsReport agreed number old lines (reported_by told ++ last) outcome

-- so is the whole report of a trace
abbrev pub ReportedIsReplayed : Type 0
ReportedIsReplayed =
    (lines : List (List ℕ)) (told : List (List ReportLine))
    → Runs 1 at_start lines told
    → IsReplayReported 1 at_start lines told

-- a trace is clean: its machine booted, or a fault says why not, something is expected, and nothing
-- is wrong
pub record IsClean (told : List (List ReportLine)) (expected wrong : ℕ) : Type 0 where
  pub begun : has_begun told ≡ true
  pub some : 0 < expected
  pub none : wrong ≡ 0

-- a check counts the expectations of a trace, and what a run of its lines misses of them with the
-- comments that are like one; its last line has these numbers, and they say whether the trace is
-- clean
pub record CountsMisses (name trace : List ℕ) (checked : Checked) : Type 0 where
  pub told : List (List ReportLine)
  pub runs : Runs 1 at_start (lines_of trace) told
  pub expected : checked.expected ≡ count_expected (lines_of trace)
  pub wrong : checked.wrong ≡ count_wrong (lines_of trace) told
  pub front : List ℕ
  pub last : checked.text.items ≡ front ++ sum_text name checked.expected checked.wrong
  pub clean : (checked.clean ≡ true) ↔ IsClean told checked.expected checked.wrong

-- so does each
abbrev pub CheckCounts : Type 0
CheckCounts =
    (name trace : List ℕ) (checked : Checked)
    → IsChecked name trace checked
    → CountsMisses name trace checked
