-- The reference state: what the VM part, the Shared part, the Guest parts and the CPUs hold, and
-- the room left in each of their logs.
use Rattle.std.specs.Prelude.{ℕ, ◌==◌, [], Option, None, if◌then◌else◌}
use Rattle.reference_model.specs.declared.changes.Ticket.{Ticket}
use Rattle.reference_model.specs.declared.changes.Loaded.{Loaded}
use Rattle.page_state.specs.declared.entry.PageRange.{PageRange}
use Rattle.page_state.specs.declared.row.Row.{Row}
use Rattle.call_table.specs.declared.step.VmKind.{VmKind}
use Rattle.call_table.specs.declared.step.VmKind.TheVariants.{Plain as PlainVm}
pub use Rattle.page_state.specs.Rows.{plain_row}
use Rattle.page_state.specs.Trees.{Tree, Pool, no_tree}

-- the Shared part: both trees, their pool and the owner rows
pub record Shared : Type 0 where
  pub host : Tree
  pub hyp : Tree
  pub free : Pool
  pub row : ℕ → Row

-- the phase of a guest
pub data Phase : Type 0 where
  empty : Phase
  live : Phase
  dying : Phase

-- a Guest part
pub record Guest : Type 0 where
  pub phase : Phase
  pub generation : ℕ
  pub kind : VmKind
  pub tree : Tree
  pub free : Pool

-- the stage of a slot of the VM part
pub data Stand : Type 0 where
  vacant : Stand
  reserved : Stand
  opened : Stand
  closing : Stand

-- a slot of the VM part, with the CPU that has each vCPU loaded
pub record Slot : Type 0 where
  pub stand : Stand
  pub generation : ℕ
  pub kind : VmKind
  pub vcpus : ℕ
  pub loaded : ℕ → Option ℕ

-- the VM part
pub record Vms : Type 0 where
  pub slot : ℕ → Slot

-- a CPU's own state; its hand is a range of funded frames
pub record Cpu : Type 0 where
  pub loaded : Option Loaded
  pub hand : Option PageRange
  pub ticket : Option Ticket

-- the contents of the parts, and the CPUs' own states
pub record Contents : Type 0 where
  pub vms : Vms
  pub shared : Shared
  pub guest : ℕ → Guest
  pub cpu : ℕ → Cpu

-- how many calls the log of each part and of each CPU can still store
pub record Rooms : Type 0 where
  pub vms : ℕ
  pub shared : ℕ
  pub guest : ℕ → ℕ
  pub cpu : ℕ → ℕ

-- the reference state
pub record Reference : Type 0 where
  pub contents : Contents
  pub rooms : Rooms

-- a function with another value at one number
abbrev pub put_at : {X : Type 0} → (ℕ → X) → ℕ → X → ℕ → X
put_at f k x j = if j == k then x else f j

-- an Empty guest
abbrev pub no_guest : Guest
no_guest = record { phase = empty; generation = 0; kind = PlainVm; tree = no_tree; free = [] }

-- an Empty slot of the generation
abbrev pub no_slot : ℕ → Slot
no_slot generation =
    record {
      stand = vacant;
      generation = generation;
      kind = PlainVm;
      vcpus = 0;
      loaded = λ i. None;
    }

-- a VM part all of whose slots are Empty
abbrev pub no_vms : Vms
no_vms = record { slot = λ v. no_slot 1 }

-- a Shared part that holds no frame
abbrev pub no_shared : Shared
no_shared = record { host = no_tree; hyp = no_tree; free = []; row = λ f. plain_row }

-- a CPU with nothing loaded, an empty hand and no ticket
abbrev pub no_cpu : Cpu
no_cpu = record { loaded = None; hand = None; ticket = None }

-- nothing is mapped, held or loaded
abbrev pub blank : Contents
blank = record { vms = no_vms; shared = no_shared; guest = λ v. no_guest; cpu = λ c. no_cpu }

-- each log can store n calls
abbrev pub all_rooms : ℕ → Rooms
all_rooms n = record { vms = n; shared = n; guest = λ v. n; cpu = λ c. n }
