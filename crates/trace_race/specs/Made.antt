-- The steps that a trace asks of CPUs, and what their passes know once these are answered
-- (profile).
use Rattle.std.specs.Prelude.{◌≡◌, ◌≢◌, ◌⊎◌, ℕ, ◌<◌, ◌==◌, Bool, true, false, List, [], ◌∷◌, ◌++◌, All, Contains, drop, filter, length, map, Some, slice_get, slice_index_or, take, if◌then◌else◌}
use Rattle.page_state.specs.declared.layout.Config.{Config}
use Rattle.page_state.specs.declared.layout.Layout.{Layout as TheLayout}
use Rattle.page_state.specs.Layouts.{Layout}
use Rattle.page_state.specs.LayoutView.{layout_of}
use Rattle.page_state.specs.Regions.{Memory}
use Rattle.call_table.specs.declared.reply.Call.{Call}
use Rattle.call_table.specs.declared.reply.Refusal.TheVariants.{Contended, LogFull}
use Rattle.call_table.specs.declared.reply.Reply.{Reply}
use Rattle.call_table.specs.declared.reply.Reply.TheVariants.{Refused}
use Rattle.call_table.specs.declared.step.Step.{Step}
use Rattle.reference_model.specs.model.Boot.{CanBoot}
use Rattle.reference_model.specs.model.History.{IsStored, calls_by, calls_on}
use Rattle.reference_model.specs.model.Run.{IsRun, Runs}
use Rattle.reference_model.specs.model.State.{Reference}
use Rattle.reference_model.specs.model.Step.{Steps}
use Rattle.part_types.specs.declared.parts.CpuState.{CpuState}
use Rattle.hypercalls.specs.declared.parts.Parts.{Parts}
use Rattle.hypercalls.specs.Booted.{IsBooted}
use Rattle.world.specs.Laws.{Goes}
use Rattle.part_table.specs.Passes.{IsPassOf, Opened, Pass, first_known, first_pass}
use Rattle.part_table.specs.Answered.{used_by}
use Rattle.part_table.specs.Before.{before_own}
use Rattle.part_table.specs.Known.{IsSame, Known}
use Rattle.part_table.specs.Parts.{IsOwn, part_of, parts}
use Rattle.part_table.specs.Beginnings.{own_in}
use Rattle.cpu_threads.specs.Machines.{FullInTheEnd, StoresInTheEnd}
use Rattle.trace_race.specs.declared.course.Asked.{Asked}
use Rattle.trace_race.specs.declared.making.Made.{Made}
use Rattle.trace_race.specs.declared.workers.Done.{Done}
use Rattle.trace_race.specs.Judged.{told_of}

-- the steps that are asked of a CPU, in the trace's order
abbrev pub steps_of : ℕ → List Asked → List Step
steps_of cpu [] = []
steps_of cpu (a ∷ more) = if a.cpu == cpu then a.step ∷ steps_of cpu more else steps_of cpu more

-- and with their replies, if each step of the trace has one
abbrev pub answers_of : ℕ → List Asked → List Reply → List (Step × Reply)
answers_of cpu [] replies = []
answers_of cpu (a ∷ more) [] = []
answers_of cpu (a ∷ more) (reply ∷ replies) =
    if a.cpu == cpu then (a.step, reply) ∷ answers_of cpu more replies
    else answers_of cpu more replies

-- steps with a reply each
abbrev pub paired : List Step → List Reply → List (Step × Reply)
paired [] replies = []
paired (step ∷ more) [] = []
paired (step ∷ more) (reply ∷ replies) = (step, reply) ∷ paired more replies

-- what a call comes to: it is stored with its reply, or a log is full
pub record Calls (step : Step) (reply : Reply) (v w : Known) : Type 0 where
  pub answered : reply ≢ Refused Contended
  pub stored : IsStored reply → StoresInTheEnd step reply v w
  pub full : reply ≡ Refused LogFull → FullInTheEnd step v w

-- calls, one after another, each of which comes to this
abbrev pub MakeAll : (Step → Reply → Known → Known → Type 0) → Known → List (Step × Reply) → Known
    → Type 0
MakeAll C v [] w = w ≡ v
MakeAll C v (a ∷ more) w = (u : Known) × C a.0 a.1 v u × MakeAll C u more w

abbrev pub Makes : Known → List (Step × Reply) → Known → Type 0
Makes v answers w = MakeAll Calls v answers w

-- a log that would store the pass's step is full in the history, before the call that follows the
-- pass's own list there: its CPU has made as many calls as a log can store, or that many calls used
-- a part that the step uses
abbrev pub FindsFull : Layout → List Call → Step → Known → Type 0
FindsFull l log step v =
    (length (calls_by v.cpu (before_own v.cpu (length v.own.log.calls) log)) ≡ l.config.log)
    ⊎ ((k : ℕ)
    × Contains (used_by step v) k
    × (length (calls_on (part_of k) (before_own v.cpu (length v.own.log.calls) log))
    ≡ l.config.log))

-- what a call comes to in a history: it is stored with its reply, or a log that would store it is
-- full there before the CPU's next call
pub record CallsIn (l : Layout) (log : List Call) (step : Step) (reply : Reply)
    (v w : Known) : Type 0 where
  pub answered : reply ≢ Refused Contended
  pub stored : IsStored reply → StoresInTheEnd step reply v w
  pub full : reply ≡ Refused LogFull → IsSame v w × FindsFull l log step v

-- the reply of a call that is stored
abbrev pub is_stored : Reply → Bool
is_stored (Refused LogFull) = false
is_stored (Refused Contended) = false
is_stored other = true

-- the calls of a list that are stored
abbrev pub stored_in : List Call → List Call
stored_in calls = filter (λ c. is_stored c.reply) calls

-- steps with their replies, in the trace's order: CPU, step and reply of each
abbrev pub asked_with : List Asked → List Reply → List (ℕ × Step × Reply)
asked_with [] replies = []
asked_with (a ∷ more) [] = []
asked_with (a ∷ more) (reply ∷ replies) = (a.cpu, a.step, reply) ∷ asked_with more replies

-- the knowledge of a CPU's pass before its first call, if it begins with this state of its own
abbrev pub known_with : TheLayout → ℕ → CpuState → Known
known_with key cpu own = record { layout = key; cpu = cpu; own = own; seen = []; tries = [] }

-- A CPU's calls in a history, after those in `before`, are its steps in the trace's order, with the
-- replies that it got, except for those that a full log refused. For each of these a log that would
-- store it is full in the history before the CPU's next call: `makes`. It begins with its own state
-- after `before`, `first`
pub record IsCpus (key : TheLayout) (cpu : ℕ) (answers : List (Step × Reply)) (at : Reference)
    (before log : List Call) : Type 0 where
  pub calls : map (λ c. (c.step, c.reply)) (calls_by cpu log) ≡ filter (λ a. is_stored a.1) answers
  pub first : CpuState
  pub first_is : IsOwn (layout_of key) at cpu first
  pub first_calls : first.log.calls ≡ calls_by cpu before
  pub last : Known
  pub makes : MakeAll (CallsIn (layout_of key) (before ++ log))
      (known_with key cpu first) answers last
  pub own : calls_by cpu (before ++ log) ≡ last.own.log.calls

-- There is one legal history of the steps with their replies. It begins with a run of the first
-- `start` steps, in the trace's order, each with its reply. From the state that they lead to, it
-- continues with stored calls, in which each CPU's calls are the CPU's own steps after these
pub record OneHistory (layout : Layout) (start : ℕ) (steps : List Asked)
    (replies : List Reply) : Type 0 where
  pub key : TheLayout
  pub key_is : layout_of key ≡ layout
  pub first : List Call
  pub asked : told_of first ≡ asked_with (take start steps) (take start replies)
  pub at : Reference
  pub begins : IsRun layout first at
  pub log : List Call
  pub end : Reference
  pub goes : Runs (Steps layout) at log end
  pub run : IsRun layout (stored_in first ++ log) end
  pub stored : All (λ c. IsStored c.reply) log
  pub each : (cpu : ℕ)
      → cpu < layout.config.cpus
      → IsCpus key cpu (answers_of cpu (drop start steps) (drop start replies)) at
      (stored_in first) log

-- parts have booted, of some memory and configuration
abbrev pub HaveBooted : {A : Type 0} → Parts A → Type 0
HaveBooted p = (m : Memory) × (c : Config) × IsBooted m c p

-- steps were made on parts, one after another, each with its reply
pub record HasRun {A : Type 0} (p : Parts A) (steps : List Asked) (replies : List Reply)
    (q : Parts A) : Type 0 where
  pub count : length replies ≡ length steps
  pub calls : List Call
  pub asked : told_of calls ≡ asked_with steps replies
  pub goes : Runs Goes p calls q

-- a table begins in the state that steps lead to that were made one after another from a boot on:
-- these are a run, and the logs with which the table begins have those of them that are stored
pub record HasBegun (t : Opened) (steps : List Asked) (replies : List Reply) : Type 0 where
  pub ready : CanBoot (layout_of t.layout)
  pub replied : length replies ≡ length steps
  pub calls : List Call
  pub asked : told_of calls ≡ asked_with steps replies
  pub at : Reference
  pub run : IsRun (layout_of t.layout) calls at
  pub stored_run : IsRun (layout_of t.layout) (stored_in calls) at
  pub logs : (k : ℕ)
      → k < parts
      → calls_on (part_of k) (stored_in calls) ≡ slice_index_or t.begun.logs k []
  pub count : length t.begun.owns ≡ t.layout.config.cpus
  pub owns : (cpu : ℕ)
      → cpu < t.layout.config.cpus
      → (calls_by cpu (stored_in calls) ≡ (own_in t.begun cpu).log.calls)
      × IsOwn (layout_of t.layout) at cpu (own_in t.begun cpu)

-- the passes of the first n CPUs, each at its place, before its first call
pub record AreFirstPasses (t : Opened) (n : ℕ) (passes : List Pass) : Type 0 where
  pub count : length passes ≡ n
  pub each : (cpu : ℕ) (p : Pass) → slice_get passes cpu ≡ Some p → p ≡ first_pass t cpu

-- the pass of a CPU that has made all its steps
pub record IsDone (t : Opened) (steps : List Asked) (replies : List Reply) (cpu : ℕ)
    (p : Pass) : Type 0 where
  pub of : IsPassOf t p
  pub cpu_is : p.knows.cpu ≡ cpu
  pub makes : Makes (first_known t cpu) (answers_of cpu steps replies) p.knows

pub record AreDone (t : Opened) (steps : List Asked) (replies : List Reply)
    (passes : List Pass) : Type 0 where
  pub count : length passes ≡ t.layout.config.cpus
  pub each : (cpu : ℕ) (p : Pass) → slice_get passes cpu ≡ Some p → IsDone t steps replies cpu p

-- all these steps were made, and their replies are appended to others
abbrev pub AddsDone : Opened → List Asked → List Reply → List Reply → List Pass → Type 0
AddsDone t steps old new passes =
    (more : List Reply)
    × (new ≡ old ++ more)
    × (length more ≡ length steps)
    × AreDone t steps more passes

-- all steps were made: the first `start` before the table was opened, and the others by the passes
pub record AreMade (t : Opened) (start : ℕ) (steps : List Asked) (replies : List Reply)
    (passes : List Pass) : Type 0 where
  pub begun : HasBegun t (take start steps) (take start replies)
  pub done : AreDone t (drop start steps) (drop start replies) passes

-- what a worker comes to: its pass has made its own steps, each of which has a reply
pub record IsDoneOf (t : Opened) (steps : List Asked) (before : Pass) (done : Done) : Type 0 where
  pub of : IsPassOf t done.pass
  pub cpu_is : done.pass.knows.cpu ≡ before.knows.cpu
  pub count : length done.replies.items ≡ length (steps_of before.knows.cpu steps)
  pub makes : Makes before.knows
      (paired (steps_of before.knows.cpu steps) done.replies.items) done.pass.knows

-- all steps are of CPUs below this number
abbrev pub AreBelow : ℕ → List Asked → Type 0
AreBelow cpus steps = All (λ a. a.cpu < cpus) steps

-- the replies of steps in the trace's order, of those that each CPU's worker has
pub record IsGathered (steps : List Asked) (done : List Done) (replies : List Reply) : Type 0 where
  pub count : length replies ≡ length steps
  pub each : (cpu : ℕ) (d : Done)
      → slice_get done cpu ≡ Some d
      → answers_of cpu steps replies ≡ paired (steps_of cpu steps) d.replies.items

-- all steps were made, each with a reply
pub record IsMadeOf (start : ℕ) (steps : List Asked) (m : Made) : Type 0 where
  pub count : length m.replies.items ≡ length steps
  pub made : AreMade m.machine.table start steps m.replies.items m.passes.items
