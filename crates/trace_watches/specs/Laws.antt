-- Laws of watches.
use Rattle.std.specs.Prelude.{◌≡◌, ◌↔◌, ℕ, ◌+◌, true, List, [], ◌∷◌, All, Option, None, Ok, ⊤}
use Rattle.trace_check.specs.declared.checking.Checked.{Checked}
use Rattle.trace_reader.specs.Reading.{lines_of}
use Rattle.trace_values.specs.Checked.{IsValueChecked}
use Rattle.trace_values.specs.Expansions.{IsExpansion}
use Rattle.trace_watches.specs.Checked.{IsWatchChecked}
use Rattle.trace_watches.specs.Told.{Tells}
use Rattle.trace_watches.specs.Watched.{IsNoted, is_step, meets}
use Rattle.trace_watches.specs.Watches.{Watch, watches_of}

-- a watch holds after a step: the reply that is recorded there is as it wants
pub record HoldsAfter (A : Type 0) (lines : List (List ℕ)) (w : Watch) (place : ℕ)
    (step : List ℕ) : Type 0 where
  pub note : Option (List ℕ)
  pub is : IsNoted A lines place step w note
  pub met : meets w note ≡ true

-- after each step of lines from a place on
abbrev pub HoldsFrom : Type 0 → List (List ℕ) → Watch → ℕ → List (List ℕ) → Type 0
HoldsFrom A lines w place [] = ⊤
HoldsFrom A lines w place (line ∷ rest) =
    (is_step line ≡ true → HoldsAfter A lines w place line) × HoldsFrom A lines w (place + 1) rest

abbrev pub Holds : Type 0 → List (List ℕ) → Watch → Type 0
Holds A lines w = HoldsFrom A lines w 0 lines

-- a watch has no miss if and only if it holds after each step
abbrev pub UnmissedHolds : Type 0 → Type 0
UnmissedHolds A = (lines : List (List ℕ)) (w : Watch) → Tells A lines w None ↔ Holds A lines w

-- each watch of a trace that is clean holds after each step
pub record EachHolds (A : Type 0) (trace : List ℕ) : Type 0 where
  pub plain : List ℕ
  pub expansion : IsExpansion A trace (Ok plain)
  pub watches : List Watch
  pub watches_are : watches_of (lines_of plain) ≡ Ok watches
  pub hold : All (Holds A (lines_of plain)) watches

abbrev pub CleanHolds : Type 0 → Type 0
CleanHolds A =
    (name trace : List ℕ) (checked : Checked)
    → IsWatchChecked A name trace checked
    → checked.clean ≡ true
    → EachHolds A trace

-- a trace without a watch is checked as ever
abbrev pub PlainIsChecked : Type 0 → Type 0
PlainIsChecked A =
    (name trace : List ℕ) (checked : Checked)
    → ((plain : List ℕ) → IsExpansion A trace (Ok plain) → watches_of (lines_of plain) ≡ Ok [])
    → IsWatchChecked A name trace checked
    → IsValueChecked A name trace checked
