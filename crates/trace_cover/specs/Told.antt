-- The report of what steps have tried (profile).
use Rattle.std.specs.Prelude.{◌≡◌, ℕ, ◌==◌, not, Bool, true, false, List, [], ◌∷◌, ◌++◌, codes, count_by, length, Option, Some, None, if◌then◌else◌}
use Rattle.std.specs.Fmt.{decimal}
use Rattle.trace_cover.specs.declared.counting.Counted.{Counted}
use Rattle.trace_cover.specs.declared.rows.Row.{Row}
use Rattle.trace_cover.specs.declared.steps.Seen.{Seen}
use Rattle.trace_cover.specs.declared.telling.Covered.{Covered}
use Rattle.trace_cover.specs.Counted.{counted}
use Rattle.trace_cover.specs.Kinds.{impossible, is_asked, is_told}
use Rattle.trace_cover.specs.Rows.{name_of, rows}

-- a row that can come, and never came
abbrev pub is_missing : Counted → Bool
is_missing c = if c.count == 0 then is_asked c.row else false

-- a row with its count, or with why it can't come
abbrev pub count_line : Counted → List ℕ
count_line c = decimal c.count ++ codes " " ++ name_of c.row ++ 10 ∷ []

abbrev pub named_reason : Row → List ℕ → List ℕ
named_reason row why = name_of row ++ codes ": " ++ why ++ 10 ∷ []

abbrev pub reason_line : Row → List ℕ → List ℕ
reason_line row why = codes "impossible " ++ named_reason row why

-- the line of a row that can come and never came
abbrev pub zero_line : Counted → List ℕ
zero_line c = elim (impossible c.row) [ Some why ↦ reason_line c.row why | None ↦ count_line c ]

-- the line of each row that came, and of each that can come
abbrev pub told_line : Counted → List ℕ
told_line c = if c.count == 0 then (if is_told c.row then zero_line c else []) else count_line c

-- what never came
abbrev pub missing_line : Counted → List ℕ
missing_line c = if is_missing c then count_line c else []

abbrev pub line_of : Bool → Counted → List ℕ
line_of true c = missing_line c
line_of false c = told_line c

-- the lines of some rows
abbrev pub lines_of : Bool → List Counted → List ℕ
lines_of only_missing [] = []
lines_of only_missing (c ∷ more) = line_of only_missing c ++ lines_of only_missing more

-- the last line: how many steps there are, and how many rows never came
abbrev pub end_line : ℕ → ℕ → List ℕ
end_line steps missing =
    codes "end steps " ++ decimal steps ++ codes " missing " ++ decimal missing ++ 10 ∷ []

-- how many rows never came, of those that can
abbrev pub missing_of : List Seen → ℕ
missing_of seen = count_by is_missing (counted seen rows)

-- the report of steps
pub record Tells (only_missing : Bool) (seen : List Seen) (covered : Covered) : Type 0 where
  pub text : covered.text.items
      ≡ lines_of only_missing (counted seen rows) ++ end_line (length seen) (missing_of seen)
  pub missing : covered.missing ≡ missing_of seen
