-- Laws of expansions.
use Rattle.std.specs.Prelude.{◌≡◌, ℕ, List, None, Ok}
use Rattle.trace_check.specs.declared.checking.Checked.{Checked}
use Rattle.trace_cases.specs.Cases.{IsCaseChecked}
use Rattle.trace_reader.specs.Reading.{lines_of}
use Rattle.trace_values.specs.Checked.{IsValueChecked}
use Rattle.trace_values.specs.Expansions.{IsExpansion}
use Rattle.trace_values.specs.Names.{first_name}

-- an expansion has no name, and is its own
pub record IsPlain (A : Type 0) (text : List ℕ) : Type 0 where
  pub none : first_name (lines_of text) ≡ None
  pub own : IsExpansion A text (Ok text)

abbrev pub ExpansionsArePlain : Type 0 → Type 0
ExpansionsArePlain A = (trace text : List ℕ) → IsExpansion A trace (Ok text) → IsPlain A text

-- a trace without a name is checked as it is
abbrev pub PlainIsChecked : Type 0 → Type 0
PlainIsChecked A =
    (name trace : List ℕ) (checked : Checked)
    → first_name (lines_of trace) ≡ None
    → IsValueChecked A name trace checked
    → IsCaseChecked A name trace checked
