-- What follows from the one history of a race's steps and replies: the laws of this crate
-- (profile).
use Rattle.std.specs.Prelude.{◌≡◌, ◌≢◌, ◌<◌, ℕ, List, [], ◌∷◌, ◌++◌, All, filter, map}
use Rattle.page_state.specs.declared.layout.Layout.{Layout as TheLayout}
use Rattle.page_state.specs.LayoutView.{layout_of}
use Rattle.call_table.specs.declared.reply.Call.{Call}
use Rattle.call_table.specs.declared.reply.Refusal.TheVariants.{LogFull}
use Rattle.call_table.specs.declared.reply.Reply.{Reply}
use Rattle.call_table.specs.declared.reply.Reply.TheVariants.{Refused}
use Rattle.call_table.specs.declared.step.Step.{Step}
use Rattle.reference_model.specs.model.History.{IsStored, calls_by}
use Rattle.reference_model.specs.model.Run.{IsRun}
use Rattle.reference_model.specs.model.State.{Reference}
use Rattle.part_table.specs.Known.{Known, StartsWith}
use Rattle.trace_race.specs.declared.course.Asked.{Asked}
use Rattle.trace_race.specs.Made.{FindsFull, IsCpus, OneHistory, answers_of, is_stored}

-- the step of a call, and its reply
abbrev pub told_by : Call → Step × Reply
told_by c = (c.step, c.reply)

-- a log that has no call isn't full: if a log can store a call, a trace's only step isn't answered
-- LogFull, before or after `start`
abbrev pub FirstNotFull : Type 0
FirstNotFull =
    (key : TheLayout) (start : ℕ) (a : Asked)
    → key.config.log ≢ 0
    → a.cpu < key.config.cpus
    → OneHistory (layout_of key) start (a ∷ []) (Refused LogFull ∷ [])
    → ⊥

-- If a CPU was answered LogFull after `start`, its list held its calls from before `start`, then
-- exactly those of its steps before this one that were stored, with their replies. These calls
-- begin its calls in the history, and a log that would store the step is full there before the
-- CPU's next call
abbrev pub FullAfter : Type 0
FullAfter =
    (key : TheLayout) (cpu : ℕ) (before after : List (Step × Reply)) (step : Step) (at : Reference)
    (first log : List Call)
    → IsCpus key cpu (before ++ (step, Refused LogFull) ∷ after) at first log
    → (v : Known)
    × (v.cpu ≡ cpu)
    × (map told_by v.own.log.calls
    ≡ map told_by (calls_by cpu first) ++ filter (λ a. is_stored a.1) before)
    × StartsWith (calls_by cpu (first ++ log)) v.own.log.calls
    × FindsFull (layout_of key) (first ++ log) step v

-- the steps of one CPU are answered as the model answers them one after another: those that are
-- stored are a run
abbrev pub OneCpuRuns : Type 0
OneCpuRuns =
    (key : TheLayout) (cpu start : ℕ) (steps : List Asked) (replies : List Reply)
    → cpu < key.config.cpus
    → All (λ a. a.cpu ≡ cpu) steps
    → OneHistory (layout_of key) start steps replies
    → (log : List Call)
    × (end : Reference)
    × IsRun (layout_of key) log end
    × All (λ c. IsStored c.reply) log
    × All (λ c. c.cpu ≡ cpu) log
    × (map told_by log ≡ filter (λ a. is_stored a.1) (answers_of cpu steps replies))
