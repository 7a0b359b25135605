-- What `check` says of a trace with watches (profile).
use Rattle.std.specs.Prelude.{◌≡◌, ℕ, ◌+◌, ◌-◌, Bool, ◌&&◌, ◌==◌, List, [], ◌∷◌, ◌++◌, drop, length, take, Option, Some, None, Result, Ok, Err, if◌then◌else◌}
use Rattle.std.specs.Str.{bytes_eq}
use Rattle.trace_check.specs.Checks.{miss_lines, none_text, sum_text}
use Rattle.trace_check.specs.declared.checking.Checked.{Checked}
use Rattle.trace_check.specs.Misses.{Miss}
use Rattle.trace_cases.specs.Cases.{IsCaseChecked}
use Rattle.trace_faults.specs.Spots.{Told}
use Rattle.trace_reader.specs.Reading.{lines_of}
use Rattle.trace_values.specs.Checked.{IsUnexpanded}
use Rattle.trace_values.specs.Expansions.{IsExpansion}
use Rattle.trace_watches.specs.Told.{TellsAll}
use Rattle.trace_watches.specs.Watches.{Watch, watches_of}

-- the last lines of a check: whether anything is expected, and the numbers
abbrev pub end_text : List ℕ → ℕ → ℕ → List ℕ
end_text name expected wrong = none_text name expected ++ sum_text name expected wrong

-- a text without this end, if it ends so
abbrev pub front_of : List ℕ → List ℕ → Option (List ℕ)
front_of text end =
    if bytes_eq (drop (length text - length end) text) end
    then Some (take (length text - length end) text)
    else None

-- a check's text with more lines before its end, which becomes another; a text that has no such
-- end (there are too many orders) gets the lines alone
abbrev pub put_before : List ℕ → List ℕ → List ℕ → List ℕ → List ℕ
put_before text end more new =
    elim (front_of text end) [ Some front ↦ front ++ more ++ new | None ↦ text ++ more ]

-- whether a check is clean but for watches: where nothing else is expected its text is the end
abbrev pub is_clean_else : List ℕ → Checked → Bool
is_clean_else name own =
    if own.expected == 0
    then own.wrong == 0 && bytes_eq own.text.items (end_text name 0 0)
    else own.clean

-- the answer, by that to the trace without its watches, and by what is missed of `count` watches
pub record IsAnswer (name : List ℕ) (own : Checked) (count : ℕ) (missed : List Miss)
    (checked : Checked) : Type 0 where
  pub text : checked.text.items
      ≡ put_before own.text.items (end_text name own.expected own.wrong) (miss_lines name missed)
      (end_text name (own.expected + count) (own.wrong + length missed))
  pub expected : checked.expected ≡ own.expected + count
  pub wrong : checked.wrong ≡ own.wrong + length missed
  pub clean : checked.clean ≡ (is_clean_else name own && length missed == 0)

-- the answer to lines with these watches, by that to them without
pub record AddsMissed (A : Type 0) (name : List ℕ) (own : Checked) (lines : List (List ℕ))
    (watches : List Watch) (checked : Checked) : Type 0 where
  pub missed : List Miss
  pub tells : TellsAll A lines watches missed
  pub answer : IsAnswer name own (length watches) missed checked

-- and to a trace
pub record IsWatched (A : Type 0) (name plain : List ℕ) (watches : List Watch)
    (checked : Checked) : Type 0 where
  pub own : Checked
  pub is : IsCaseChecked A name plain own
  pub adds : AddsMissed A name own (lines_of plain) watches checked

-- a trace without names: where it has no watch, it is checked as ever; a watch that is none is all
-- that is missed
abbrev pub ChecksWatched : Type 0 → List ℕ → List ℕ → Result (List Watch) Told → Checked → Type 0
ChecksWatched A name plain (Ok []) checked = IsCaseChecked A name plain checked
ChecksWatched A name plain (Ok (w ∷ more)) checked = IsWatched A name plain (w ∷ more) checked
ChecksWatched A name plain (Err fault) checked = IsUnexpanded name plain fault checked

-- the answer by what comes of the names: the expansion is checked
abbrev pub ChecksPlain : Type 0 → List ℕ → List ℕ → Result (List ℕ) Told → Checked → Type 0
ChecksPlain A name trace (Ok plain) checked =
    ChecksWatched A name plain (watches_of (lines_of plain)) checked
ChecksPlain A name trace (Err fault) checked = IsUnexpanded name trace fault checked

pub record IsWatchChecked (A : Type 0) (name trace : List ℕ) (checked : Checked) : Type 0 where
  pub told : Result (List ℕ) Told
  pub expansion : IsExpansion A trace told
  pub checks : ChecksPlain A name trace told checked
