-- What is missed of the expectations of a trace (profile).
use Rattle.std.specs.Prelude.{ℕ, ◌+◌, List, [], ◌∷◌, ◌++◌, codes, length, drop, Bool, false, Option, Some, None, slice_get, is_some, ◌==◌, if◌then◌else◌}
use Rattle.std.specs.Str.{bytes_eq}
use Rattle.trace_words.specs.Words.{is_silent}
use Rattle.trace_text.specs.declared.report.ReportLine.{ReportLine}
use Rattle.trace_check.specs.Expectations.{expectation, expected_first}
use Rattle.trace_check.specs.Shown.{is_plain, shown, shown_all}

-- a miss: the number of a line, and the mistake there
abbrev pub Miss : Type 0
Miss = ℕ × List ℕ

-- the mistake if another text was expected, if none was, and if none came
abbrev pub other_words : List ℕ → List ℕ → List ℕ
other_words text got = codes "expected " ++ text ++ codes ", got " ++ got

abbrev pub extra_words : List ℕ → List ℕ
extra_words got = codes "got " ++ got ++ codes ", expected no more"

abbrev pub unmet_words : List ℕ → List ℕ → List ℕ
unmet_words text why = codes "expected " ++ text ++ codes ", " ++ why

-- on the line of a number this text was expected, and that was reported
abbrev pub other_at : ℕ → List ℕ → List ℕ → List Miss
other_at number got text = if bytes_eq got text then [] else (number, other_words text got) ∷ []

-- or none was, and `why` says why
abbrev pub unmet_at : ℕ → List ℕ → Option (List ℕ) → List ℕ → List Miss
unmet_at number why None text = (number, unmet_words text why) ∷ []
unmet_at number why (Some got) text = other_at number got text

-- expectations from the line of a number on, of texts that were reported
abbrev pub unmet : ℕ → List ℕ → List (List ℕ) → List (List ℕ) → List Miss
unmet number why got [] = []
unmet number why got (text ∷ texts) =
    unmet_at number why (slice_get got 0) text ++ unmet (number + 1) why (drop 1 got) texts

-- texts that were reported past the last that was expected
abbrev pub extra : ℕ → List (List ℕ) → List Miss
extra number [] = []
extra number (got ∷ more) = (number, extra_words got) ∷ extra number more

-- a fault or a disagreement of a line that expects nothing
abbrev pub unexpected_at : ℕ → ReportLine → List Miss
unexpected_at number told =
    if is_plain told then [] else (number, codes "unexpected " ++ shown told) ∷ []

-- all of them
abbrev pub unexpected : ℕ → List ReportLine → List Miss
unexpected number [] = []
unexpected number (told ∷ more) = unexpected_at number told ++ unexpected number more

-- a line that says nothing and has no fault
abbrev pub is_nothing : List ℕ → List ReportLine → Bool
is_nothing line [] = is_silent line
is_nothing line (told ∷ more) = false

-- the report of the line of a number, against the expectations after it
abbrev pub against : ℕ → List (List ℕ) → List (List ℕ) → List Miss
against number got texts =
    unmet (number + 1) (codes "got no more") got texts ++ extra number (drop (length texts) got)

-- the line of a number, which reports this, by the expectations after it
abbrev pub missed_by : ℕ → List ℕ → List ReportLine → List (List ℕ) → List Miss
missed_by number line reported texts =
    if length texts == 0 then unexpected number reported
    else (if is_nothing line reported
    then unmet (number + 1) (codes "there is no line to check") [] texts
    else against number (shown_all reported) texts)

-- the same, of a line that may be an expectation itself
abbrev pub missed_at : ℕ → List ℕ → List ReportLine → List (List ℕ) → List Miss
missed_at number line reported rest =
    if is_some (expectation line) then unexpected number reported
    else missed_by number line reported (expected_first rest)

-- lines, from a number on, of which these report this each
abbrev pub missed : ℕ → List (List ℕ) → List (List ReportLine) → List Miss
missed number lines [] = []
missed number [] (reported ∷ more) = []
missed number (line ∷ rest) (reported ∷ more) =
    missed_at number line reported rest ++ missed (number + 1) rest more

-- a line that wasn't reached
abbrev pub left_at : ℕ → List ℕ → List Miss
left_at number line =
    elim (expectation line) [
      | Some text ↦ (number, unmet_words text (codes "not reached")) ∷ []
      | None ↦ if is_silent line then [] else (number, codes "not reached") ∷ []
    ]

-- lines from a number on that weren't reached
abbrev pub left : ℕ → List (List ℕ) → List Miss
left number [] = []
left number (line ∷ rest) = left_at number line ++ left (number + 1) rest

-- the lines, from a number on, after the one that ended the run: the expectations at their front
-- are that line's own
abbrev pub unreached : ℕ → List (List ℕ) → List Miss
unreached number [] = []
unreached number (line ∷ rest) =
    if is_some (expectation line) then unreached (number + 1) rest else left number (line ∷ rest)

-- expectations before the first line
abbrev pub early : List (List ℕ) → List Miss
early lines = unmet 1 (codes "there is no line to check") [] (expected_first lines)

-- the misses of the lines past those that report this
abbrev pub rest_missed : List (List ℕ) → List (List ReportLine) → List Miss
rest_missed lines told = unreached (length told + 1) (drop (length told) lines)

-- all misses of a trace, of whose lines the first report this each
unfoldable pub misses : List (List ℕ) → List (List ReportLine) → List Miss
misses lines told = early lines ++ missed 1 lines told ++ rest_missed lines told
