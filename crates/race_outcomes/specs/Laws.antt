-- Laws of orders and outcomes (profile).
use Rattle.std.specs.Prelude.{◌≡◌, ℕ, zero, suc, ◌+◌, ◌==◌, Bool, true, false, not, List, [], ◌∷◌, ◌++◌, filter, length, map, Option, Some, None, slice_get, if◌then◌else◌}
use Rattle.page_state.specs.Layouts.{Layout}
use Rattle.call_table.specs.declared.reply.Call.{Call}
use Rattle.call_table.specs.declared.reply.Refusal.TheVariants.{LogFull, NoMemory}
use Rattle.call_table.specs.declared.reply.Reply.{Reply}
use Rattle.call_table.specs.declared.reply.Reply.TheVariants.{Refused}
use Rattle.call_table.specs.declared.step.Step.{Step}
use Rattle.reference_model.specs.model.History.{calls_by}
use Rattle.reference_model.specs.model.Rules.{guest_slot, names}
use Rattle.reference_model.specs.model.Run.{Runs}
use Rattle.reference_model.specs.model.State.{Reference}
use Rattle.reference_model.specs.model.Step.{Steps, is_full}
use Rattle.reference_model.specs.model.Used.{rooms_of}
use Rattle.race_outcomes.specs.declared.node.Turn.{Turn}
use Rattle.race_outcomes.specs.Orders.{Gives, IsOutcome}

-- whether a step, if there is one, is of a CPU
abbrev pub is_of : ℕ → Option Turn → Bool
is_of cpu (Some t) = t.cpu == cpu
is_of cpu None = false

-- the places of a CPU's steps in a list whose first step has this place
abbrev pub places_of : ℕ → ℕ → List Turn → List ℕ
places_of cpu first [] = []
places_of cpu first (t ∷ more) =
    if t.cpu == cpu then first ∷ places_of cpu (first + 1) more else places_of cpu (first + 1) more

-- An order has the steps of each CPU, each once, in the list's order
abbrev pub OrdersKeep : Type 0
OrdersKeep =
    (l : Layout) (s : Reference) (turns : List Turn) (order : List ℕ) (replies : List Reply)
    → Gives l s turns order replies
    → (cpu : ℕ)
    → filter (λ i. is_of cpu (slice_get turns i)) order ≡ places_of cpu 0 turns

-- `nomemory`
abbrev pub is_want : Reply → Bool
is_want (Refused NoMemory) = true
is_want other = false

-- exactly the steps with the reply `nomemory` find no memory
abbrev pub AreTheirs : List Turn → List Reply → Type 0
AreTheirs [] replies = Unit {0}
AreTheirs (t ∷ more) [] = Unit {0}
AreTheirs (t ∷ more) (r ∷ rs) = (t.wants ≡ is_want r) × AreTheirs more rs

-- the steps of a CPU with their replies, in the list's order
abbrev pub answers_of : ℕ → List Turn → List Reply → List (Step × Reply)
answers_of cpu [] replies = []
answers_of cpu (t ∷ more) [] = []
answers_of cpu (t ∷ more) (r ∷ rs) =
    if t.cpu == cpu then (t.step, r) ∷ answers_of cpu more rs else answers_of cpu more rs

-- calls are these steps with these replies: those of each CPU are its own, in the list's order
pub record AreCalls (turns : List Turn) (replies : List Reply) (log : List Call) : Type 0 where
  pub count : length replies ≡ length turns
  pub each : (cpu : ℕ)
      → map (λ c. (c.step, c.reply)) (calls_by cpu log) ≡ answers_of cpu turns replies

-- If a list of calls is a run of the model, the replies of its steps are an outcome
abbrev pub RunsAreOutcomes : Type 0
RunsAreOutcomes =
    (l : Layout) (s t : Reference) (turns : List Turn) (replies : List Reply) (log : List Call)
    → Runs (Steps l) s log t
    → AreCalls turns replies log
    → AreTheirs turns replies
    → IsOutcome l s turns replies

-- `logfull`
abbrev pub is_log_full : Reply → Bool
is_log_full (Refused LogFull) = true
is_log_full other = false

-- steps with their replies, but for those that a full log refuses
abbrev pub stored_answers : List (Step × Reply) → List (Step × Reply)
stored_answers answers = filter (λ a. not (is_log_full a.1)) answers

-- the calls of a list before a CPU's own call that comes after n of its own; all if there is none
abbrev pub before_own : ℕ → ℕ → List Call → List Call
before_own cpu n [] = []
before_own cpu zero (c ∷ more) =
    if c.cpu == cpu then [] else c ∷ before_own cpu zero more
before_own cpu (suc n) (c ∷ more) =
    if c.cpu == cpu then c ∷ before_own cpu n more else c ∷ before_own cpu (suc n) more

-- the model's first test refuses a CPU's step: a log that would store it has no room
abbrev pub HasFullLog : Reference → ℕ → Step → Type 0
HasFullLog s cpu step =
    let slot = guest_slot (s.contents.cpu cpu) step in
    is_full (names step) slot (rooms_of (names step) slot cpu s.rooms) ≡ true

-- Calls from a state are these steps with these replies, but for those that a full log refused:
-- these are no calls of the list. Each of them finds a log full at a point after the CPU's calls
-- before it, and before the next: `full`
pub record AreStoredCalls (l : Layout) (s : Reference) (turns : List Turn) (replies : List Reply)
    (log : List Call) : Type 0 where
  pub count : length replies ≡ length turns
  pub each : (cpu : ℕ)
      → map (λ c. (c.step, c.reply)) (calls_by cpu log)
      ≡ stored_answers (answers_of cpu turns replies)
  pub full : (cpu : ℕ) (before after : List (Step × Reply)) (step : Step)
      → answers_of cpu turns replies ≡ before ++ (step, Refused LogFull) ∷ after
      → (u : Reference)
      → Runs (Steps l) s (before_own cpu (length (stored_answers before)) log) u
      → HasFullLog u cpu step

-- If a list of calls is a run of the model, the replies of its steps are an outcome together with
-- those of a full log, which refused steps that aren't in the list
abbrev pub StoredRunsAreOutcomes : Type 0
StoredRunsAreOutcomes =
    (l : Layout) (s t : Reference) (turns : List Turn) (replies : List Reply) (log : List Call)
    → Runs (Steps l) s log t
    → AreStoredCalls l s turns replies log
    → AreTheirs turns replies
    → IsOutcome l s turns replies

-- And an outcome is that of a run of the model, whose calls are the steps with these replies
abbrev pub OutcomesAreRuns : Type 0
OutcomesAreRuns =
    (l : Layout) (s : Reference) (turns : List Turn) (replies : List Reply)
    → IsOutcome l s turns replies
    → (log : List Call) × (t : Reference) × Runs (Steps l) s log t × AreCalls turns replies log
