-- The logs of a world, and the lists that have all their calls.
use Rattle.std.specs.Prelude.{◌≡◌, ℕ, ◌<◌, ◌≤◌, List, [], map, length, slice_get, Vec}
use Rattle.call_table.specs.declared.reply.Call.{Call}
use Rattle.call_table.specs.declared.reply.Reply.{Reply}
use Rattle.call_table.specs.declared.step.Step.{Step}
use Rattle.page_state.specs.Layouts.{Layout}
use Rattle.reference_model.specs.model.Boot.{CanBoot}
use Rattle.reference_model.specs.model.History.{calls_on, calls_by, Kept, IsHistory}
use Rattle.reference_model.specs.model.Parts.{Part, vm_part, shared_part, guest_part}
use Rattle.reference_model.specs.model.Run.{IsRun}
use Rattle.reference_model.specs.model.State.{Reference}
use Rattle.hypercalls.specs.Stands.{at_place}
use Rattle.world.specs.declared.merge.Histories.{Histories}
use Rattle.world.specs.declared.merge.MergeFault.{MergeFault}
use Rattle.world.specs.declared.merge.MergeFault.TheVariants.{NoMemory, NoOrder}

-- the number of a fault in a report (profile)
abbrev pub merge_number : MergeFault → ℕ
merge_number NoMemory = 1
merge_number NoOrder = 2

-- the log at a place of a list; past its end there is one with no calls
abbrev pub log_at : {Z : Type 0} → List (Vec Call Z) → ℕ → List Call
log_at logs i = at_place [] (λ v. v.items) (slice_get logs i)

module _ (h : Histories) where
  -- the log of a part
  abbrev pub log_on : Part → List Call
  log_on vm_part = h.vms.items
  log_on shared_part = h.shared.items
  log_on (guest_part v) = log_at h.guests.items v

  -- a CPU's own list
  abbrev pub log_by : ℕ → List Call
  log_by cpu = log_at h.cpus.items cpu

  -- a list of all calls of the logs, each once: restricted to the calls of any one log it is that
  -- log. Each of its calls is in its CPU's list, so it has no others
  pub record IsMerged (all : List Call) : Type 0 where
    pub on : (p : Part) → calls_on p all ≡ log_on p
    pub by : (cpu : ℕ) → calls_by cpu all ≡ log_by cpu

  -- what such a list says: CPU, step and reply of each call
  pub record ReportsMerged (told : List (ℕ × Step × Reply)) : Type 0 where
    pub all : List Call
    pub merged : IsMerged all
    pub tells : map (λ c. (c.cpu, c.step, c.reply)) all ≡ told

  -- the logs are those of what there is: of the VM part, the Shared part, 64 guests and the CPUs of
  -- the layout
  pub record AreLogsOf (l : Layout) (kept : Kept) : Type 0 where
    pub vms : h.vms.items ≡ kept.vms.1
    pub shared : h.shared.items ≡ kept.shared.1
    pub guest : (v : ℕ) → v < 64 → log_at h.guests.items v ≡ (kept.guest v).1
    pub guests : length h.guests.items ≤ 64
    pub cpu : (c : ℕ) → c < l.config.cpus → log_by c ≡ (kept.cpu c).1
    pub cpus : length h.cpus.items ≤ l.config.cpus

  -- the logs are those of one legal history
  pub record IsOfHistory : Type 0 where
    pub layout : Layout
    pub ready : CanBoot layout
    pub kept : Kept
    pub log : List Call
    pub history : IsHistory layout kept log
    pub logs : AreLogsOf layout kept

-- the calls of one legal history are a merged list of its logs
abbrev pub HistoryMerges : Type 0
HistoryMerges = (h : Histories) (o : IsOfHistory h) → IsMerged h o.log

-- and each merged list of its logs is a legal history that leaves the same
abbrev pub MergedHistory : Type 0
MergedHistory =
    (h : Histories) (o : IsOfHistory h) (all : List Call)
    → IsMerged h all
    → IsHistory o.layout o.kept all

-- if two lists merge the same logs, and one is a run, so is the other, to the same end
abbrev pub MergedRun : Type 0
MergedRun =
    (l : Layout) (h : Histories) (log all : List Call) (t : Reference)
    → IsRun l log t
    → IsMerged h log
    → IsMerged h all
    → IsRun l all t
