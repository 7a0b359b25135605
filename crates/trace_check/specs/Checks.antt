-- What `check` says of a trace (profile).
use Rattle.std.specs.Prelude.{◌≡◌, ℕ, ◌+◌, ◌-◌, List, [], ◌∷◌, ◌++◌, codes, length, Bool, ◌&&◌, not, ◌==◌, Option, Some, None, slice_get, if◌then◌else◌}
use Rattle.std.specs.Fmt.{decimal}
use Rattle.std.specs.List.{list_any}
use Rattle.trace_reader.specs.Reading.{lines_of}
use Rattle.trace_faults.specs.Beside.{file_line}
use Rattle.trace_faults.specs.Spots.{place_line}
use Rattle.trace_text.specs.declared.fault.Fault.{Fault}
use Rattle.trace_text.specs.declared.report.ReportLine.{ReportLine}
use Rattle.trace_text.specs.declared.report.ReportLine.TheVariants as report
use Rattle.trace_text.specs.Session.{at_start}
use Rattle.trace_check.specs.declared.checking.Checked.{Checked}
use Rattle.trace_check.specs.Expectations.{count_expected, count_mistaken, is_mistaken}
use Rattle.trace_check.specs.Misses.{Miss, misses}
use Rattle.trace_check.specs.Runs.{Runs}
use Rattle.trace_check.specs.Shown.{is_boot_or_fault}

-- whether the machine booted, or a fault says why it didn't
abbrev pub has_begun : List (List ReportLine) → Bool
has_begun told = list_any (list_any is_boot_or_fault) told

-- a miss, with its file and line
abbrev pub miss_line : List ℕ → Miss → List ℕ
miss_line name miss = name ++ codes ":" ++ decimal miss.0 ++ codes ": " ++ miss.1 ++ 10 ∷ []

abbrev pub miss_lines : List ℕ → List Miss → List ℕ
miss_lines name [] = []
miss_lines name (miss ∷ more) = miss_line name miss ++ miss_lines name more

-- the fault at the first byte of the line of a number
abbrev pub first_line : List ℕ → ℕ → List ℕ → List ℕ
first_line name number said = name ++ codes ":" ++ decimal number ++ codes ":1: " ++ said ++ 10 ∷ []

-- the mistake of a comment that is like an expectation but isn't one
unfoldable pub mistaken_text : List ℕ → List ℕ
mistaken_text line =
    codes "no expectation: found `" ++ line ++ codes "`, wanted `#= ` and what is expected"

-- the line for it
abbrev pub mistaken_line : List ℕ → ℕ → List ℕ → List ℕ
mistaken_line name number line = first_line name number (mistaken_text line)

-- all of those of the lines from a number on
abbrev pub mistaken_lines : List ℕ → ℕ → List (List ℕ) → List ℕ
mistaken_lines name number [] = []
mistaken_lines name number (line ∷ rest) =
    (if is_mistaken line then mistaken_line name number line else [])
    ++ mistaken_lines name (number + 1) rest

-- the fault that ended the run, if one did: its line reports it alone
abbrev pub fault_in : List ReportLine → Option Fault
fault_in (report.Fault line fault ∷ []) = Some fault
fault_in other = None

abbrev pub last_fault : List (List ReportLine) → Option Fault
last_fault told =
    elim (slice_get told (length told - 1)) [ Some reported ↦ fault_in reported | None ↦ None ]

-- the place of the fault that ended the run, if there is a miss
abbrev pub spot_text : List ℕ → List (List ℕ) → List (List ReportLine) → ℕ → List ℕ
spot_text name lines told missed =
    if missed == 0 then []
    else elim (last_fault told)
    [ Some fault ↦ place_line name lines (length told - 1) fault | None ↦ [] ]

-- the report of a whole file
abbrev pub boot_text : List ℕ → Bool → List ℕ
boot_text name begun = if begun then [] else file_line name (codes "no boot")

abbrev pub none_text : List ℕ → ℕ → List ℕ
none_text name expected = if expected == 0 then file_line name (codes "nothing is expected") else []

abbrev pub sum_text : List ℕ → ℕ → ℕ → List ℕ
sum_text name expected wrong =
    file_line name (decimal expected ++ codes " expected, " ++ decimal wrong ++ codes " wrong")

-- the whole text for lines with these reports and misses
abbrev pub said_of : List ℕ → List (List ℕ) → List (List ReportLine) → List Miss → ℕ → ℕ → List ℕ
said_of name lines told missed expected wrong =
    miss_lines name missed ++ mistaken_lines name 1 lines
    ++ spot_text name lines told (length missed) ++ boot_text name (has_begun told)
    ++ none_text name expected ++ sum_text name expected wrong

-- how many misses and comments that are like an expectation a trace has
abbrev pub count_wrong : List (List ℕ) → List (List ReportLine) → ℕ
count_wrong lines told = length (misses lines told) + count_mistaken lines

-- the answer to a trace whose lines report this, and of which that is missed
pub record ChecksMissed (name : List ℕ) (lines : List (List ℕ)) (told : List (List ReportLine))
    (missed : List Miss) (checked : Checked) : Type 0 where
  pub text : checked.text.items
      ≡ said_of name lines told missed (count_expected lines) (length missed + count_mistaken lines)
  pub expected : checked.expected ≡ count_expected lines
  pub wrong : checked.wrong ≡ length missed + count_mistaken lines
  pub clean : checked.clean
      ≡ (has_begun told && not (count_expected lines == 0)
      && length missed + count_mistaken lines == 0)

-- the answer to a trace whose lines report this
abbrev pub Checks : List ℕ → List (List ℕ) → List (List ReportLine) → Checked → Type 0
Checks name lines told = ChecksMissed name lines told (misses lines told)

-- the answer to the bytes of a trace: there is a run of its lines
pub record IsChecked (name trace : List ℕ) (checked : Checked) : Type 0 where
  pub told : List (List ReportLine)
  pub runs : Runs 1 at_start (lines_of trace) told
  pub checks : Checks name (lines_of trace) told checked
