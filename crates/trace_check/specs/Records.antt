-- A trace with its expectations filled in (profile).
use Rattle.std.specs.Prelude.{◌≡◌, ℕ, ◌-◌, ◌==◌, not, ◌&&◌, Bool, true, false, List, [], ◌∷◌, ◌++◌, length, map, take, is_some, Some, None, slice_get, if◌then◌else◌}
use Rattle.std.specs.List.{list_all}
use Rattle.trace_reader.specs.Reading.{lines_of}
use Rattle.trace_text.specs.declared.report.ReportLine.{ReportLine}
use Rattle.trace_text.specs.Session.{at_start}
use Rattle.trace_check.specs.Expectations.{comment, expectation}
use Rattle.trace_check.specs.Runs.{Runs}
use Rattle.trace_check.specs.Shown.{shown}

-- whether each of these lines is an expectation
abbrev pub can_expect : List (List ℕ) → Bool
can_expect lines = list_all (λ line. is_some (expectation line)) lines

-- the comments that say what a line reports: none of a line that reports nothing
abbrev pub notes : List ReportLine → List (List ℕ)
notes reported = map comment (map shown reported)

-- the notes if each of them is an expectation, and so neither too long nor with a stray byte;
-- otherwise none
abbrev pub noted : List ReportLine → List (List ℕ)
noted reported = if can_expect (notes reported) then notes reported else []

-- a line that reports this, and its expectations. Those that were there are left out
abbrev pub recorded_at : List ℕ → List ReportLine → List (List ℕ)
recorded_at line reported = if is_some (expectation line) then [] else line ∷ noted reported

-- lines without the expectations at their front
abbrev pub without_own : List (List ℕ) → List (List ℕ)
without_own [] = []
without_own (line ∷ rest) = if is_some (expectation line) then without_own rest else line ∷ rest

-- lines of which the first report this each. After the one that ended the run only its own
-- expectations are left out
abbrev pub recorded : List (List ℕ) → List (List ReportLine) → List (List ℕ)
recorded lines [] = without_own lines
recorded [] (reported ∷ more) = []
recorded (line ∷ rest) (reported ∷ more) = recorded_at line reported ++ recorded rest more

-- the bytes of lines, each with its end
abbrev pub bytes_of : List (List ℕ) → List ℕ
bytes_of [] = []
bytes_of (line ∷ rest) = (line ++ 10 ∷ []) ++ bytes_of rest

-- and without the last line's end if it lacks it
abbrev pub joined : Bool → List (List ℕ) → List ℕ
joined lacking lines =
    if lacking then take (length (bytes_of lines) - 1) (bytes_of lines) else bytes_of lines

-- bytes whose last line lacks its end
abbrev pub lacks_end : List ℕ → Bool
lacks_end bytes =
    elim (slice_get bytes (length bytes - 1)) [ None ↦ false | Some byte ↦ not (byte == 10) ]

-- lines of which the last is an expectation
abbrev pub ends_expected : List (List ℕ) → Bool
ends_expected lines =
    elim (slice_get lines (length lines - 1))
    [ None ↦ false | Some line ↦ is_some (expectation line) ]

-- lines of which the last has no byte, or none at all
abbrev pub ends_empty : List (List ℕ) → Bool
ends_empty lines =
    elim (slice_get lines (length lines - 1)) [ None ↦ true | Some line ↦ length line == 0 ]

-- whether the last recorded line lacks its end: if the trace's does, and neither an expectation nor
-- an empty line is last
abbrev pub is_lacking : List ℕ → List (List ℕ) → Bool
is_lacking trace lines = lacks_end trace && (not (ends_expected lines) && not (ends_empty lines))

-- the trace of these bytes, of whose lines these report this
abbrev pub recorded_text : List ℕ → List (List ReportLine) → List ℕ
recorded_text trace told = let lines = recorded (lines_of trace) told in
    joined (is_lacking trace lines) lines

-- a text is the record of the bytes of a trace: there is a run of its lines
pub record IsRecord (trace text : List ℕ) : Type 0 where
  pub told : List (List ReportLine)
  pub runs : Runs 1 at_start (lines_of trace) told
  pub text_is : text ≡ recorded_text trace told
