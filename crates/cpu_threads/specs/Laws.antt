-- What follows from a machine's calls and its end: the laws of this crate.
use Rattle.std.specs.Prelude.{◌≡◌, ◌≢◌, ◌⊎◌, ℕ, ◌<◌, true, length, map, All, IfSome, List, [], ◌∷◌, ◌++◌, Option, Ok, Err, None}
use Rattle.page_state.specs.declared.layout.Layout.{Layout as TheLayout}
use Rattle.call_table.specs.declared.reply.Call.{Call}
use Rattle.call_table.specs.declared.reply.Refusal.{Refusal}
use Rattle.call_table.specs.declared.reply.Refusal.TheVariants.{NoMemory}
use Rattle.call_table.specs.declared.reply.Reply.{Reply}
use Rattle.call_table.specs.declared.reply.Reply.TheVariants.{Done, Refused}
use Rattle.call_table.specs.declared.reply.Value.{Value}
use Rattle.call_table.specs.declared.reply.Value.TheVariants.{Vm}
use Rattle.call_table.specs.declared.step.Step.{Step}
use Rattle.call_table.specs.declared.step.Step.TheVariants.{VmReserve, Fund, Install, VmOpen}
use Rattle.call_table.specs.declared.step.VmId.{VmId}
use Rattle.call_table.specs.declared.step.VmKind.{VmKind}
use Rattle.reference_model.specs.model.History.{IsStored, calls_by, calls_on}
use Rattle.part_types.specs.declared.parts.CpuState.{CpuState}
use Rattle.part_types.specs.Logs.{StoredCalls}
use Rattle.ghost_spec.specs.States.{contents_in}
use Rattle.ghost_judge.specs.Judgements.{IsAsPredicted, told_of}
use Rattle.part_table.specs.declared.slot.Slot.{Slot}
use Rattle.part_table.specs.Answered.{FindsAway, FindsLogFull, MakesCall, StoresNothing, used_by}
use Rattle.part_table.specs.Before.{before_own}
use Rattle.part_table.specs.Endings.{IsEndFor, IsEndOf}
use Rattle.part_table.specs.Parts.{parts, part_of, uses}
use Rattle.part_table.specs.Passes.{Opened, Pass}
use Rattle.part_table.specs.Beginnings.{GoesOn, own_in}
use Rattle.part_table.specs.Known.{AddsTries, AreFronts, Known, StartsWith, Try, seen_at}
use Rattle.part_table.specs.Tried.{FoundAway, FoundFull, FoundRoom}
use Rattle.cpu_threads.specs.Ends.{AreFreshAt, HasAll, IsAtHome, LacksOne, OfGiven}
use Rattle.cpu_threads.specs.Inits.{InitsVm}
use Rattle.cpu_threads.specs.Judged.{Asked, IsJudged}
use Rattle.cpu_threads.specs.declared.init.InitStage.{InitStage}
use Rattle.cpu_threads.specs.declared.init.InitStage.TheVariants.{Reserve, Fund as FundStage, Install as InstallStage, Open}

-- The history is a pass's: its CPU's calls in it are the pass's own list, in order and with their
-- replies, and its calls on each part begin with what the pass has seen there, and with each log of
-- the part that it took, whose calls come before the pass's next one
pub record IsHistoryOf (l : TheLayout) (log : List Call) (p : Pass) : Type 0 where
  pub calls : calls_by p.knows.cpu log ≡ p.knows.own.log.calls
  pub seen : (k : ℕ) → k < parts → StartsWith (calls_on (part_of k) log) (seen_at p.knows.seen k)
  pub tried : AreFronts l.config.log p.knows.cpu log p.knows.tries

-- There is one legal history at whose end the parts and the CPUs are. It goes on from what the
-- machine began with, is each given pass's, and has no more calls of a CPU whose pass was never
-- handed out
pub record OneHistory {A : Type 0} (t : Opened) (found : List (Slot A)) (cpus : List CpuState)
    (passes : List (Option Pass)) (given : List Pass) : Type 0 where
  pub end : IsEndOf t.layout found cpus
  pub goes_on : GoesOn t.begun end.left.log
  pub each : OfGiven given (IsHistoryOf t.layout end.left.log)
  pub idle : (c : ℕ) → IsAtHome passes c → calls_by c end.left.log ≡ (own_in t.begun c).log.calls

-- the parts and the CPUs that a shutdown gives are the end of one legal history, which agrees with
-- each given pass, and in which the other CPUs made no further call
abbrev pub EndsInOne : Type 0 → Type 0
EndsInOne A =
    (t : Opened) (found : List (Slot A)) (cpus : List CpuState) (passes : List (Option Pass))
    (given : List Pass)
    → IsEndFor t found cpus (OfGiven given)
    → AreFreshAt t passes cpus
    → OneHistory t found cpus passes given

-- if a try of a given pass found a part's log full, the history has as many calls of the part as a
-- log can store before the pass's next call, and no more to its end
abbrev pub FullLogsStay : Type 0 → Type 0
FullLogsStay A =
    (m : Opened) (found : List (Slot A)) (cpus : List CpuState) (passes : List (Option Pass))
    (given : List Pass) (h : OneHistory m found cpus passes given)
    → OfGiven given
    (λ p. All
    (λ t. FoundFull t.1.1
    → (length (calls_on (part_of t.1.0) (before_own p.knows.cpu t.0 h.end.left.log))
    ≡ m.layout.config.log)
    × (length (calls_on (part_of t.1.0) h.end.left.log) ≡ m.layout.config.log)) p.knows.tries)

-- what a pass has seen of a part only grows, and of a part that its call used it ends with the call
abbrev pub SeenGrows : Type 0
SeenGrows = (step : Step) (reply : Reply) (v w : Known) (s : MakesCall step reply v w) (k : ℕ)
    → StartsWith (seen_at w.seen k) (seen_at v.seen k)
    × (uses s.call k ≡ true → (before : List Call) × (seen_at w.seen k ≡ before ++ s.call ∷ []))

-- a stored call tried exactly the parts that its step uses, in their order and each once, and took
-- each with room in its log
abbrev pub TakesEach : Type 0
TakesEach = (step : Step) (reply : Reply) (v w : Known) (s : MakesCall step reply v w)
    → (map (λ t. t.0) s.tries ≡ used_by step v) × All (λ t. FoundRoom t.1) s.tries

-- tries of the first of these parts, in their order and each once: the last one found this, and
-- each before it took its part with room in its log
pub record StopAt (Last : Option StoredCalls → Type 0) (ks : List ℕ)
    (tries : List Try) : Type 0 where
  pub before : List Try
  pub last : Try
  pub all : tries ≡ before ++ last ∷ []
  pub numbers : (more : List ℕ) × (ks ≡ map (λ t. t.0) tries ++ more)
  pub room : All (λ t. FoundRoom t.1) before
  pub found : Last last.1

-- a try of a step that finds a part with another pass stops there, and has recorded it
abbrev pub StopsAtAnother : Type 0
StopsAtAnother =
    (step : Step) (v w : Known) (f : StoresNothing (FindsAway step v) v w)
    → (s : StopAt FoundAway (used_by step v) f.tries)
    × AddsTries (s.before ++ (s.last.0, None) ∷ []) v w

-- a try of a step that finds a log full: the CPU's own, and no part is tried, or that of the part
-- at which it stops
abbrev pub StopsAtFullLog : Type 0
StopsAtFullLog =
    (step : Step) (v w : Known) (f : StoresNothing (FindsLogFull step v) v w)
    → ((v.own.log.room ≡ 0) × (f.tries ≡ [])) ⊎ StopAt FoundFull (used_by step v) f.tries

-- a judge that keeps all questions is asked about a stored call once, with its CPU, its step and
-- its reply
abbrev pub keeps : List Asked → Asked → List Asked → Type 0
keeps from asked to = to ≡ from ++ asked ∷ []

abbrev pub AskedOnce : Type 0 → Type 0
AskedOnce A =
    (step : Step) (reply : Reply) (v w : Known) (from to : List Asked)
    → IsJudged A keeps step reply v w from to
    → (asked : Asked)
    × (to ≡ from ++ asked ∷ [])
    × (asked.cpu ≡ v.cpu)
    × (asked.step ≡ step)
    × (asked.reply ≡ reply)

-- if a call didn't lack memory, its judge is shown the model's step: the reply and the state after
-- it are those that the model gives from the state before it
abbrev pub ShowsModel : (A : Type 0) {J : Type 0} → (J → Asked → J → Type 0) → Type 0
ShowsModel A {J = J} takes =
    (step : Step) (reply : Reply) (v w : Known) (from to : J)
    (h : IsJudged A takes step reply v w from to)
    → reply ≢ Refused NoMemory
    → IfSome h.made.told.asked.states
    (λ s. IsAsPredicted reply (contents_in s.1) (told_of s.0 v.cpu step))

-- a CPU's list has these steps and replies more, in this order
abbrev pub HasMore : List (Step × Reply) → Known → Known → Type 0
HasMore told v w =
    (more : List Call)
    × (w.own.log.calls ≡ v.own.log.calls ++ more)
    × (map (λ c. (c.step, c.reply)) more ≡ told)

module _ (kind : VmKind) (vcpus pfn n : ℕ) where
  -- the calls up to the one of a stage: each was made, but for the last, which got this reply
  abbrev pub AddsTo : InitStage → Reply → Known → Known → Type 0
  AddsTo Reserve r v w = HasMore ((VmReserve kind vcpus, r) ∷ []) v w
  AddsTo FundStage r v w =
      (a : Value) × HasMore ((VmReserve kind vcpus, Done a) ∷ (Fund pfn n, r) ∷ []) v w
  AddsTo InstallStage r v w =
      (a b : Value)
      × HasMore ((VmReserve kind vcpus, Done a) ∷ (Fund pfn n, Done b) ∷ (Install, r) ∷ []) v w
  AddsTo Open r v w =
      (a b c : Value)
      × HasMore
      ((VmReserve kind vcpus, Done a) ∷ (Fund pfn n, Done b) ∷ (Install, Done c) ∷ (VmOpen, r)
      ∷ []) v w

-- making a VM adds the calls of all four stages to the CPU's list, or those up to the refused one,
-- if that is stored
abbrev pub InitAdds : Type 0
InitAdds = (kind : VmKind) (vcpus pfn n : ℕ) (v w : Known)
    → ((vm : VmId)
    → InitsVm kind vcpus pfn n (Ok vm) v w
    → AddsTo kind vcpus pfn n Open (Done (Vm vm)) v w)
    × ((stage : InitStage) (why : Refusal)
    → IsStored (Refused why)
    → InitsVm kind vcpus pfn n (Err (stage, why)) v w
    → AddsTo kind vcpus pfn n stage (Refused why) v w)

-- if a pass is missing, not all are given
abbrev pub MissingOne : Type 0
MissingOne =
    (passes : List (Option Pass)) (given : List Pass)
    → LacksOne passes given
    → HasAll passes given
    → ⊥
