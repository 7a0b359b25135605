-- What a trace misses whose steps after `start` may be made in any order (profile).
use Rattle.std.specs.Prelude.{ℕ, ◌+◌, ◌==◌, Bool, ◌&&◌, List, [], ◌∷◌, ◌++◌, codes, drop, length, map, is_some, slice_get, Option, Some, None, option_and_then, if◌then◌else◌}
use Rattle.std.specs.Fmt.{decimal}
use Rattle.std.specs.List.{list_any}
use Rattle.race_outcomes.specs.declared.finding.Outcome.{Outcome}
use Rattle.trace_race.specs.declared.course.Asked.{Asked}
use Rattle.trace_text.specs.declared.fault.Fault.{Fault}
use Rattle.trace_text.specs.declared.report.ReportLine.{ReportLine}
use Rattle.trace_text.specs.declared.report.ReportLine.TheVariants as report
use Rattle.trace_check.specs.Expectations.{expectation}
use Rattle.trace_check.specs.Misses.{Miss, misses, other_words}
use Rattle.trace_outcomes.specs.Texts.{is_among, kinds_at, places_text, text_at}
use Rattle.trace_cases.specs.Kinds.{is_open, kinds}

-- the reports of lines from a number on if one of them has a fault: the fault alone
abbrev pub faulted : ℕ → ℕ → Fault → List (List ℕ) → List (List ReportLine)
faulted number at fault [] = []
faulted number at fault (line ∷ rest) =
    if number == at then (report.Fault at fault ∷ []) ∷ []
    else [] ∷ faulted (number + 1) at fault rest

-- what lines report that report nothing
abbrev pub silences : List (List ℕ) → List (List ReportLine)
silences lines = map (λ line. []) lines

-- the reports of all lines, if the first `count` are carried out in order, and each step after them
-- may get several replies: here none
abbrev pub padded : ℕ → List (List ℕ) → List (List ReportLine) → List (List ReportLine)
padded count lines told = if length told == count then told ++ silences (drop count lines) else told

-- the expectation on the line right after that of a number
abbrev pub expected_behind : List (List ℕ) → ℕ → Option (List ℕ)
expected_behind lines number = option_and_then expectation (slice_get lines number)

-- whether one of these steps is on the line of a number
abbrev pub is_step_line : List Asked → ℕ → Bool
is_step_line steps number = list_any (λ a. a.line == number) steps

-- the line after that of a number: an expectation of one of these steps becomes a plain comment
abbrev pub plain_at : List Asked → ℕ → List ℕ → List ℕ
plain_at steps number line =
    if is_some (expectation line) && is_step_line steps number then codes "#" else line

abbrev pub plain_from : List Asked → ℕ → List (List ℕ) → List (List ℕ)
plain_from steps number [] = []
plain_from steps number (line ∷ rest) =
    plain_at steps number line ∷ plain_from steps (number + 1) rest

-- all lines so
abbrev pub plain : List Asked → List (List ℕ) → List (List ℕ)
plain steps lines = plain_from steps 0 lines

-- a reply that isn't a listed text, and an order that gives it
abbrev pub order_words : List Asked → Outcome → List ℕ
order_words steps o = codes " by order" ++ places_text steps o.order.items

abbrev pub other_text : List Asked → List ℕ → ℕ → Outcome → List ℕ
other_text steps text place o =
    other_words text (text_at place o.replies.items) ++ order_words steps o

-- the first outcome whose reply to the step at a place isn't a listed text
abbrev pub other_missed : List Asked → ℕ → List ℕ → List (List ℕ) → ℕ → List Outcome → List Miss
other_missed steps number text wanted place [] = []
other_missed steps number text wanted place (o ∷ more) =
    if is_among wanted (text_at place o.replies.items)
    then other_missed steps number text wanted place more
    else (number, other_text steps text place o) ∷ []

-- no miss of this kind if others may come, too
abbrev pub others_missed : List Asked → ℕ → List ℕ → List (List ℕ) → ℕ → List Outcome → List Miss
others_missed steps number text wanted place found =
    if is_open text then [] else other_missed steps number text wanted place found

-- a listed text that never comes
abbrev pub never_at : ℕ → List (List ℕ) → List ℕ → List Miss
never_at number come kind = if is_among come kind then [] else (number, codes "never " ++ kind) ∷ []

abbrev pub never_missed : ℕ → List (List ℕ) → List (List ℕ) → List Miss
never_missed number come [] = []
never_missed number come (kind ∷ more) = never_at number come kind ++ never_missed number come more

-- the misses of the expectation of the step at a place, on the line of a number
abbrev pub text_missed : List Asked → List Outcome → ℕ → ℕ → List ℕ → List Miss
text_missed steps found place number text =
    others_missed steps number text (kinds text) place found
    ++ never_missed number (kinds_at found place) (kinds text)

-- and of the step at a place, which may have one
abbrev pub step_missed : List (List ℕ) → List Asked → List Outcome → ℕ → Asked → List Miss
step_missed lines steps found place a =
    elim (expected_behind lines a.line)
    [ None ↦ [] | Some text ↦ text_missed steps found place (a.line + 1) text ]

-- of the steps from a place on
abbrev pub missed_from : List (List ℕ) → List Asked → List Outcome → ℕ → List Asked → List Miss
missed_from lines steps found place [] = []
missed_from lines steps found place (a ∷ more) =
    step_missed lines steps found place a ++ missed_from lines steps found (place + 1) more

-- all misses of a trace, of whose lines the first report this each, and of whose steps after
-- `start` these are all outcomes
abbrev pub race_misses : List (List ℕ) → List (List ReportLine) → List Asked → List Outcome
    → List Miss
race_misses lines told steps found =
    misses (plain steps lines) told ++ missed_from lines steps found 0 steps

-- that there are too many points
abbrev pub too_many_words : ℕ → List ℕ
too_many_words made = codes "too many after " ++ decimal made ++ codes " steps"
