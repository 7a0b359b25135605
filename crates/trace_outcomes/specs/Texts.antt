-- The report of all outcomes of a race (profile).
use Rattle.std.specs.Prelude.{ℕ, ◌+◌, Bool, true, false, nat_lt, List, [], ◌∷◌, ◌++◌, codes, length, map, slice_get, unwrap_or, option_map, if◌then◌else◌}
use Rattle.std.specs.Fmt.{decimal}
use Rattle.std.specs.List.{list_any}
use Rattle.std.specs.Str.{bytes_eq}
use Rattle.call_table.specs.declared.reply.Reply.{Reply}
use Rattle.call_table.specs.Texts.{text_of_reply}
use Rattle.race_outcomes.specs.declared.finding.Outcome.{Outcome}
use Rattle.trace_race.specs.declared.course.Asked.{Asked}
use Rattle.trace_race.specs.Raced.{step_lines}
use Rattle.trace_text.specs.Texts.{text_of_report}

-- the text of the reply at a place
abbrev pub text_at : ℕ → List Reply → List ℕ
text_at place replies = unwrap_or (option_map text_of_reply (slice_get replies place)) []

-- texts with one more, unless it is among them
abbrev pub is_among : List (List ℕ) → List ℕ → Bool
is_among texts text = list_any (λ other. bytes_eq other text) texts

abbrev pub with_kind : List (List ℕ) → List ℕ → List (List ℕ)
with_kind kinds text = if is_among kinds text then kinds else kinds ++ text ∷ []

-- and with more of them, one after another
abbrev pub with_kinds : List (List ℕ) → List (List ℕ) → List (List ℕ)
with_kinds kinds [] = kinds
with_kinds kinds (text ∷ more) = with_kinds (with_kind kinds text) more

-- all replies of the step at a place, each once, in the order in which the outcomes come
abbrev pub kinds_at : List Outcome → ℕ → List (List ℕ)
kinds_at found place = with_kinds [] (map (λ o. text_at place o.replies.items) found)

-- texts with ` | ` between them
abbrev pub behind_bars : List (List ℕ) → List ℕ
behind_bars [] = []
behind_bars (kind ∷ more) = codes " | " ++ kind ++ behind_bars more

abbrev pub kinds_text : List (List ℕ) → List ℕ
kinds_text [] = []
kinds_text (kind ∷ more) = kind ++ behind_bars more

-- the line of a step with all its replies
abbrev pub step_line : Asked → List (List ℕ) → List ℕ
step_line a kinds =
    (decimal a.line ++ codes " " ++ decimal a.cpu ++ codes " ") ++ kinds_text kinds ++ 10 ∷ []

abbrev pub steps_text : List Outcome → ℕ → List Asked → List ℕ
steps_text found place [] = []
steps_text found place (a ∷ more) =
    step_line a (kinds_at found place) ++ steps_text found (place + 1) more

-- whether the replies of each step vary
abbrev pub varied_from : List Outcome → ℕ → List Asked → List Bool
varied_from found place [] = []
varied_from found place (a ∷ more) =
    nat_lt 1 (length (kinds_at found place)) ∷ varied_from found (place + 1) more

-- the reply of a step, if it varies
unfoldable pub varied_reply : Asked → Bool → List ℕ → List ℕ
varied_reply a true reply = (decimal a.line ++ codes " ") ++ reply ++ codes "; "
varied_reply a false reply = []

abbrev pub replies_text : List Reply → ℕ → List Asked → List Bool → List ℕ
replies_text replies place [] varied = []
replies_text replies place (a ∷ more) [] = []
replies_text replies place (a ∷ more) (v ∷ vs) =
    varied_reply a v (text_at place replies) ++ replies_text replies (place + 1) more vs

-- an order, by the lines of its steps
abbrev pub line_at : List Asked → ℕ → ℕ
line_at steps place = unwrap_or (option_map (λ a. a.line) (slice_get steps place)) 0

abbrev pub place_text : List Asked → ℕ → List ℕ
place_text steps place = codes " " ++ decimal (line_at steps place)

abbrev pub places_text : List Asked → List ℕ → List ℕ
places_text steps [] = []
places_text steps (place ∷ more) = place_text steps place ++ places_text steps more

abbrev pub order_text : List Asked → List ℕ → List ℕ
order_text steps order = codes "order" ++ places_text steps order ++ 10 ∷ []

-- the line of an outcome: the replies that vary, and an order that gives them
abbrev pub outcome_line : List Asked → List Bool → Outcome → List ℕ
outcome_line steps varied o =
    codes "outcome " ++ replies_text o.replies.items 0 steps varied
    ++ order_text steps o.order.items

abbrev pub outcomes_text : List Asked → List Bool → List Outcome → List ℕ
outcomes_text steps varied [] = []
outcomes_text steps varied (o ∷ more) =
    outcome_line steps varied o ++ outcomes_text steps varied more

-- the last line: how many steps and outcomes there are
abbrev pub end_text : ℕ → ℕ → List ℕ
end_text steps outcomes =
    codes "end steps " ++ decimal steps ++ codes " outcomes " ++ decimal outcomes ++ 10 ∷ []

-- all lines: of the steps before `start`, as a replay has them, of those after it, and of all
-- outcomes
abbrev pub all_text : List Asked → List Reply → List Asked → List Outcome → List ℕ
all_text first replies steps found =
    text_of_report (step_lines first replies) ++ steps_text found 0 steps
    ++ outcomes_text steps (varied_from found 0 steps) found
    ++ end_text (length first + length steps) (length found)

-- that there are too many points after some steps
abbrev pub too_many_text : ℕ → List ℕ
too_many_text made = codes "too many after " ++ decimal made ++ codes " steps\n"

-- that no order gives these replies
abbrev pub none_text : List ℕ
none_text = codes "no order gives these replies\n"

-- that a step before `start` has another reply than the model's
abbrev pub otherwise_text : ℕ → List ℕ → List ℕ
otherwise_text line reply = decimal line ++ codes " told otherwise than " ++ reply ++ 10 ∷ []
