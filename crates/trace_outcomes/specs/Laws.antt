-- The report of a race is an outcome, and its replies are read (profile).
use Rattle.std.specs.Prelude.{◌≡◌, ◌<◌, ◌^◌, ℕ, false, true, List, [], ◌∷◌, All, Contains, drop, length, map, Some, None, Ok, slice_get, slice_set, take}
use Rattle.page_state.specs.Layouts.{Layout}
use Rattle.call_table.specs.declared.reply.Reply.{Reply}
use Rattle.call_table.specs.Texts.{text_of_reply}
use Rattle.reference_model.specs.model.Boot.{boot}
use Rattle.race_outcomes.specs.declared.finding.Outcome.{Outcome as RaceOutcome}
use Rattle.race_outcomes.specs.declared.node.Turn.{Turn}
use Rattle.race_outcomes.specs.Laws.{is_want}
use Rattle.race_outcomes.specs.Orders.{AllOutcomes, IsOutcome, replies_along}
use Rattle.trace_lines.specs.declared.response.Response.TheVariants as responses
use Rattle.trace_lines.specs.Texts.{text_of_response}
use Rattle.trace_race.specs.declared.course.Asked.{Asked}
use Rattle.trace_race.specs.Courses.{Asking, in_order_of}
use Rattle.trace_race.specs.Made.{OneHistory}
use Rattle.trace_race.specs.Raced.{HasOneHistory}
use Rattle.trace_text.specs.Worlds.{Machine}
use Rattle.trace_outcomes.specs.Races.{Texts, no_replies, nothing_wanted, raced_of, first_replies, turns_raced, wants}
use Rattle.trace_outcomes.specs.Reports.{is_reply, place_of, told_with}

-- steps with their replies, of which exactly those with the reply `nomemory` find no memory
abbrev pub turns_replied : List Asked → List Reply → List Turn
turns_replied [] replies = []
turns_replied (a ∷ more) [] = []
turns_replied (a ∷ more) (reply ∷ replies) =
    record { cpu = a.cpu; step = a.step; wants = is_want reply } ∷ turns_replied more replies

-- If replies have one legal history, the model gives the steps before `start` these replies, made
-- in order. From the state that they lead to, the others are an outcome of the steps after `start`,
-- in some order of the CPUs, also where a full log refused some
abbrev pub HistoriesAreOutcomes : Type 0
HistoriesAreOutcomes =
    (l : Layout) (start : ℕ) (steps : List Asked) (replies : List Reply)
    → length replies ≡ length steps
    → All (λ a. a.cpu < l.config.cpus) steps
    → OneHistory l start steps replies
    →
    let first = replies_along l (boot l) (turns_replied (take start steps) (take start replies)) in
    (first.0 ≡ take start replies)
    × IsOutcome l first.1 (turns_replied (drop start steps) (drop start replies))
    (drop start replies)

-- So if none is `nomemory`, the steps before `start` have the replies that the outcomes of the
-- trace begin with, and the others are among these
abbrev pub RacesAreReported : Type 0
RacesAreReported =
    (m : Machine) (a : Asking) (replies : List Reply) (found : List RaceOutcome)
    → m.state ≡ boot m.layout
    → length replies ≡ length a.steps
    → All (λ s. s.cpu < m.layout.config.cpus) a.steps
    → HasOneHistory m a replies
    → All (λ r. is_want r ≡ false) replies
    → AllOutcomes m.layout (first_replies m a (no_replies a.steps)).1
    (turns_raced a (no_replies a.steps)) (nothing_wanted (raced_of a)) found
    → ((first_replies m a (no_replies a.steps)).0 ≡ take (in_order_of a) replies)
    × Contains (map (λ o. o.replies.items) found) (drop (in_order_of a) replies)

-- The text of each reply is read as that of a reply, and just `nomemory` as that of a step that
-- finds no memory
abbrev pub RepliesAreRead : Type 0
RepliesAreRead =
    (r : Reply) → (is_reply (text_of_reply r) ≡ true) × (wants (Some (text_of_reply r)) ≡ is_want r)

-- The line of a step in a report is read as the reply to the step at the place of its line and CPU,
-- which had none before
abbrev pub LinesAreRead : Type 0
LinesAreRead =
    (steps : List Asked) (texts : Texts) (line cpu place : ℕ) (reply : Reply)
    → line < 2 ^ 64
    → cpu < 2 ^ 64
    → place_of steps line cpu ≡ Some place
    → slice_get texts place ≡ Some None
    → told_with steps texts (text_of_response (responses.Step line cpu reply))
    ≡ Ok (slice_set texts place (Some (text_of_reply reply)))
