-- What `check` says of a trace with names (profile).
use Rattle.std.specs.Prelude.{◌≡◌, ℕ, false, ◌++◌, List, Result, Ok, Err}
use Rattle.trace_check.specs.Checks.{sum_text}
use Rattle.trace_check.specs.declared.checking.Checked.{Checked}
use Rattle.trace_check.specs.Expectations.{count_expected}
use Rattle.trace_cases.specs.Cases.{IsCaseChecked, IsCaseRecord}
use Rattle.trace_faults.specs.Spots.{Told, spot_line}
use Rattle.trace_reader.specs.Reading.{lines_of}
use Rattle.trace_values.specs.Expansions.{IsExpansion}

-- a name has a fault: its place is the text, and the numbers
pub record IsUnexpanded (name trace : List ℕ) (fault : Told) (checked : Checked) : Type 0 where
  pub text : checked.text.items
      ≡ spot_line name fault ++ sum_text name (count_expected (lines_of trace)) 1
  pub expected : checked.expected ≡ count_expected (lines_of trace)
  pub wrong : checked.wrong ≡ 1
  pub clean : checked.clean ≡ false

-- the answer by what comes of the names: the expansion is checked
abbrev pub ChecksExpanded : Type 0 → List ℕ → List ℕ → Result (List ℕ) Told → Checked → Type 0
ChecksExpanded A name trace (Ok plain) checked = IsCaseChecked A name plain checked
ChecksExpanded A name trace (Err fault) checked = IsUnexpanded name trace fault checked

pub record IsValueChecked (A : Type 0) (name trace : List ℕ) (checked : Checked) : Type 0 where
  pub told : Result (List ℕ) Told
  pub expansion : IsExpansion A trace told
  pub checks : ChecksExpanded A name trace told checked

-- the record by what comes of the names: that of the expansion
abbrev pub RecordsExpanded : Type 0 → Result (List ℕ) Told → Result (List ℕ) Told → Type 0
RecordsExpanded A (Ok plain) recorded =
    (text : List ℕ) × IsCaseRecord A plain text × (recorded ≡ Ok text)
RecordsExpanded A (Err fault) recorded = recorded ≡ Err fault

pub record IsValueRecord (A : Type 0) (trace : List ℕ)
    (recorded : Result (List ℕ) Told) : Type 0 where
  pub told : Result (List ℕ) Told
  pub expansion : IsExpansion A trace told
  pub records : RecordsExpanded A told recorded
