-- Parts of a run, and one legal history of the stored calls.
use Rattle.std.specs.Prelude.{◌≡◌, ℕ, ◌<◌, ◌==◌, List, filter, All}
use Rattle.call_table.specs.declared.reply.Reply.{Reply}
use Rattle.call_table.specs.declared.reply.Reply.TheVariants.{Refused}
use Rattle.call_table.specs.declared.reply.Refusal.TheVariants.{LogFull, Contended}
use Rattle.call_table.specs.declared.reply.Call.{Call}
use Rattle.reference_model.specs.model.State.{Shared, Guest, Vms, Cpu, Reference}
use Rattle.page_state.specs.Layouts.{Layout}
use Rattle.reference_model.specs.model.Parts.{Part, vm_part, shared_part, guest_part}
use Rattle.reference_model.specs.model.Rules.{call_uses}
use Rattle.reference_model.specs.model.Run.{IsRun}

-- part of a run: the calls that use the part, in order
abbrev pub calls_on : Part → List Call → List Call
calls_on p cs = filter (call_uses p) cs

-- a CPU's own calls, in order
abbrev pub calls_by : ℕ → List Call → List Call
calls_by cpu cs = filter (λ c. c.cpu == cpu) cs

-- the reply of a call that is stored
abbrev pub IsStored : Reply → Type 0
IsStored (Refused LogFull) = ⊥
IsStored (Refused Contended) = ⊥
IsStored other = Unit {0}

-- the parts and the CPUs with their logs: each part has its content and its log, each CPU its own
-- state and its own log
pub record Kept : Type 0 where
  pub vms : Vms × List Call
  pub shared : Shared × List Call
  pub guest : ℕ → Guest × List Call
  pub cpu : ℕ → Cpu × List Call

-- one legal history: the list is a run of stored calls, and the parts, the CPUs and their logs are
-- as after it
pub record IsHistory (l : Layout) (kept : Kept) (log : List Call) : Type 0 where
  pub end : Reference
  pub run : IsRun l log end
  pub stored : All (λ c. IsStored c.reply) log
  pub vms : kept.vms ≡ (end.contents.vms, calls_on vm_part log)
  pub shared : kept.shared ≡ (end.contents.shared, calls_on shared_part log)
  pub guest : (v : ℕ) → v < 64 → kept.guest v ≡ (end.contents.guest v, calls_on (guest_part v) log)
  pub cpu : (c : ℕ) → c < l.config.cpus → kept.cpu c ≡ (end.contents.cpu c, calls_by c log)
