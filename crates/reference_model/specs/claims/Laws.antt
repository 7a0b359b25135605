-- Laws of the definitions, each proved on the contract of the function of its name.
use Rattle.std.specs.Prelude.{◌≡◌, ◌≢◌, ℕ, ◌<◌, false, IsTrue, List, [], ◌∷◌, ◌++◌}
use Rattle.call_table.specs.declared.reply.Call.{Call}
use Rattle.call_table.specs.declared.reply.Refusal.{Refusal}
use Rattle.call_table.specs.declared.reply.Refusal.TheVariants.{LogFull, NoMemory}
use Rattle.call_table.specs.declared.reply.Reply.TheVariants.{Refused}
use Rattle.call_table.specs.declared.step.Step.{Step}
use Rattle.reference_model.specs.model.State.{Vms, Shared, Guest, Cpu, Reference}
use Rattle.page_state.specs.Layouts.{Layout}
use Rattle.reference_model.specs.claims.Sound.{Sound}
use Rattle.reference_model.specs.model.Parts.{Part, vm_part, shared_part, guest_part}
use Rattle.reference_model.specs.model.Rules.{call_uses}
use Rattle.reference_model.specs.model.Step.{Steps, predict_step}
use Rattle.reference_model.specs.model.Boot.{boot, IsCarveEnough}
use Rattle.reference_model.specs.model.Run.{IsRun}
use Rattle.reference_model.specs.model.History.{calls_on, calls_by, IsStored, Kept, IsHistory}
use Rattle.reference_model.specs.model.Stored.{StoresCall}

-- a step that refuses changes nothing but the rooms of logs
abbrev pub RefusalKeeps : Type 0
RefusalKeeps =
    (l : Layout) (s t : Reference) (c : Call) (why : Refusal)
    → Steps l s c t
    → c.reply ≡ Refused why
    → t.contents ≡ s.contents

-- LogFull leaves the rooms too
abbrev pub LogFullKeeps : Type 0
LogFullKeeps =
    (l : Layout) (s t : Reference) (c : Call) → Steps l s c t → c.reply ≡ Refused LogFull → t ≡ s

-- each step of each CPU has a call, with the reply and the next state that `predict_step` predicts
abbrev pub StepExists : Type 0
StepExists =
    (l : Layout) (s : Reference) (cpu : ℕ) (step : Step)
    → (c : Call)
    × (c.cpu ≡ cpu)
    × (c.step ≡ step)
    × (c.reply ≡ (predict_step l s cpu step).0)
    × Steps l s c (predict_step l s cpu step).1

-- a call has one next state
abbrev pub StepOnce : Type 0
StepOnce = (l : Layout) (s t u : Reference) (c : Call) → Steps l s c t → Steps l s c u → t ≡ u

-- a step of a CPU has at most one call, and so one reply, apart from NoMemory
abbrev pub ReplyOnce : Type 0
ReplyOnce =
    (l : Layout) (s t u : Reference) (c d : Call)
    → Steps l s c t
    → Steps l s d u
    → d.cpu ≡ c.cpu
    → d.step ≡ c.step
    → c.reply ≢ Refused NoMemory
    → d.reply ≢ Refused NoMemory
    → d ≡ c

-- two runs of the same calls and replies have one end
abbrev pub EndOnce : Type 0
EndOnce = (l : Layout) (cs : List Call) (t u : Reference) → IsRun l cs t → IsRun l cs u → t ≡ u

-- two runs with the same parts, and the same calls of each CPU, have one end
abbrev pub PartsEnd : Type 0
PartsEnd =
    (l : Layout) (cs ds : List Call) (t u : Reference)
    → IsRun l cs t
    → IsRun l ds u
    → ((p : Part) → calls_on p ds ≡ calls_on p cs)
    → ((cpu : ℕ) → calls_by cpu ds ≡ calls_by cpu cs)
    → t ≡ u

-- the VM part of a state, with the room of its log
abbrev pub vms_in : Reference → Vms × ℕ
vms_in s = (s.contents.vms, s.rooms.vms)

-- the Shared part of a state, with the room of its log
abbrev pub shared_in : Reference → Shared × ℕ
shared_in s = (s.contents.shared, s.rooms.shared)

-- a Guest part of a state, with the room of its log
abbrev pub guest_in : ℕ → Reference → Guest × ℕ
guest_in v s = (s.contents.guest v, s.rooms.guest v)

-- a CPU's own state, with the room of its log
abbrev pub cpu_in : ℕ → Reference → Cpu × ℕ
cpu_in c s = (s.contents.cpu c, s.rooms.cpu c)

-- two states agree on the parts that a call uses and on its CPU's own state, with the rooms of
-- their logs
pub record Agree (c : Call) (s t : Reference) : Type 0 where
  pub vms : IsTrue (call_uses vm_part c) → vms_in t ≡ vms_in s
  pub shared : IsTrue (call_uses shared_part c) → shared_in t ≡ shared_in s
  pub guest : (v : ℕ) → IsTrue (call_uses (guest_part v) c) → guest_in v t ≡ guest_in v s
  pub cpu : cpu_in c.cpu t ≡ cpu_in c.cpu s

-- two states agree on all that a call doesn't use
pub record AgreeBeside (c : Call) (s t : Reference) : Type 0 where
  pub vms : call_uses vm_part c ≡ false → vms_in t ≡ vms_in s
  pub shared : call_uses shared_part c ≡ false → shared_in t ≡ shared_in s
  pub guest : (v : ℕ) → call_uses (guest_part v) c ≡ false → guest_in v t ≡ guest_in v s
  pub cpu : (cpu : ℕ) → cpu ≢ c.cpu → cpu_in cpu t ≡ cpu_in cpu s

-- frame rule: a step changes only the parts that its call uses and its CPU's own state
abbrev pub StepChanges : Type 0
StepChanges = (l : Layout) (s t : Reference) (c : Call) → Steps l s c t → AgreeBeside c s t

-- frame rule: a step reads only the parts that its call uses, so it can be made in any state that
-- has these, and does the same there
abbrev pub StepReads : Type 0
StepReads =
    (l : Layout) (s t s' : Reference) (c : Call)
    → Agree c s s'
    → Steps l s c t
    → (t' : Reference) × Steps l s' c t' × Agree c t t'

-- frame rule: from two states that agree on the parts that a call uses, it leads to states that
-- agree on them
abbrev pub StepAgrees : Type 0
StepAgrees =
    (l : Layout) (s t s' t' : Reference) (c : Call)
    → Agree c s s'
    → Steps l s c t
    → Steps l s' c t'
    → Agree c t t'

-- the boot state is sound if the carve-out has a frame for each table
abbrev pub BootSound : Type 0
BootSound = (l : Layout) → IsCarveEnough l → Sound l (boot l).contents

-- the boot state with empty logs has the empty history
abbrev pub HistoryBegins : Type 0
HistoryBegins =
    (l : Layout)
    → IsHistory l
    (record {
      vms = ((boot l).contents.vms, []);
      shared = ((boot l).contents.shared, []);
      guest =
          λ v. ((boot l).contents.guest v, []);
      cpu = λ c. ((boot l).contents.cpu c, []);
    })
    []

-- a legal history grows by each call that leads on from its end and is stored in the logs of the
-- parts that it uses and of its CPU, and in no other
abbrev pub HistoryGrows : Type 0
HistoryGrows =
    (l : Layout) (before after : Kept) (log : List Call) (c : Call) (t : Reference)
    (h : IsHistory l before log)
    → Steps l h.end c t
    → IsStored c.reply
    → c.cpu < l.config.cpus
    → StoresCall c t.contents before after
    → IsHistory l after (log ++ c ∷ [])
