-- The order in which the steps after `start` took effect, as a report has it (profile).
use Rattle.std.specs.Prelude.{◌≡◌, ℕ, ◌==◌, Bool, true, false, List, [], ◌∷◌, ◌++◌, codes, drop, filter, map}
use Rattle.std.specs.Fmt.{decimal}
use Rattle.page_state.specs.Layouts.{Layout}
use Rattle.call_table.specs.declared.reply.Call.{Call}
use Rattle.call_table.specs.declared.reply.Reply.{Reply}
use Rattle.call_table.specs.declared.step.Step.{Step}
use Rattle.reference_model.specs.model.History.{calls_by, calls_on}
use Rattle.reference_model.specs.model.Parts.{Part}
use Rattle.reference_model.specs.model.Run.{IsRun, Runs}
use Rattle.reference_model.specs.model.Step.{Steps}
use Rattle.trace_race.specs.declared.course.Asked.{Asked}
use Rattle.trace_race.specs.Judged.{told_of}
use Rattle.trace_race.specs.Made.{OneHistory, is_stored, stored_in}

-- each step with its reply
abbrev pub answered : List Asked → List Reply → List (Asked × Reply)
answered [] replies = []
answered (a ∷ more) [] = []
answered (a ∷ more) (reply ∷ replies) = (a, reply) ∷ answered more replies

-- the answers that logs store: all but `logfull` and `contended`, which change nothing
abbrev pub stored_of : List (Asked × Reply) → List (Asked × Reply)
stored_of answers = filter (λ a. is_stored a.1) answers

-- the answers to one CPU, in their order
abbrev pub made_by : ℕ → List (Asked × Reply) → List (Asked × Reply)
made_by cpu answers = filter (λ a. a.0.cpu == cpu) answers

-- the calls of answers: CPU, step and reply of each
abbrev pub calls_of : List (Asked × Reply) → List (ℕ × Step × Reply)
calls_of answers = map (λ a. (a.0.cpu, a.0.step, a.1)) answers

-- These are the line numbers of the steps after `start` in an order that gives their replies.
-- `each`: each of these steps that a log stores is in it once, and no other, each CPU's in the
-- trace's order. `log`: the calls of the one legal history after `start`, in an order that keeps
-- each part's and each CPU's (`on`, `by`), and so a run to the same end (`goes`, `run`). `told`:
-- they are these steps with their replies, in this order
pub record HasOrder (l : Layout) (start : ℕ) (steps : List Asked) (replies : List Reply)
    (lines : List ℕ) : Type 0 where
  pub order : List (Asked × Reply)
  pub lines_are : lines ≡ map (λ a. a.0.line) order
  pub each : (cpu : ℕ)
      → made_by cpu order
      ≡ made_by cpu (stored_of (answered (drop start steps) (drop start replies)))
  pub history : OneHistory l start steps replies
  pub log : List Call
  pub on : (p : Part) → calls_on p log ≡ calls_on p history.log
  pub by : (cpu : ℕ) → calls_by cpu log ≡ calls_by cpu history.log
  pub goes : Runs (Steps l) history.at log history.end
  pub run : IsRun l (stored_in history.first ++ log) history.end
  pub told : told_of log ≡ calls_of order

-- the line of an order
abbrev pub numbers_text : List ℕ → List ℕ
numbers_text [] = []
numbers_text (n ∷ more) = (codes " " ++ decimal n) ++ numbers_text more

abbrev pub order_text : List ℕ → List ℕ
order_text lines = codes "order" ++ numbers_text lines ++ 10 ∷ []

-- the text before a report's last line: the order's line, if one is asked for
abbrev pub IsOrder : Bool → Layout → ℕ → List Asked → List Reply → List ℕ → Type 0
IsOrder false l start steps replies text = (text ≡ []) × OneHistory l start steps replies
IsOrder true l start steps replies text =
    (lines : List ℕ) × HasOrder l start steps replies lines × (text ≡ order_text lines)

-- and that of a trace that boots nothing
abbrev pub idle_order : Bool → List ℕ
idle_order false = []
idle_order true = order_text []
