-- The lists of a state.
use Rattle.std.specs.Prelude.{◌≡◌, ℕ, ◌+◌, ◌&&◌, ◌<◌, nat_lt, Bool, IsTrue, List, [], Option, All, get_or, map}
use Rattle.std.specs.Option.{option_or}
use Rattle.call_table.specs.declared.step.VmKind.{VmKind}
use Rattle.reference_model.specs.model.State.{Contents, Phase, Stand}
use Rattle.ghost_spec.specs.declared.parts.GhostGuest.{GhostGuest}
use Rattle.ghost_spec.specs.declared.parts.GhostSlot.{GhostSlot}
use Rattle.ghost_spec.specs.Filled.{ordered}
use Rattle.ghost_spec.specs.States.{phase_in, stand_in}
use Rattle.ghost_trees.specs.Pools.{in_order}
use Rattle.c_states.specs.declared.members.PlainCpu.{PlainCpu}
use Rattle.c_states.specs.declared.members.PlainGuest.{PlainGuest}
use Rattle.c_states.specs.declared.members.PlainLoad.{PlainLoad}
use Rattle.c_states.specs.declared.members.PlainSlot.{PlainSlot}
use Rattle.c_states.specs.declared.told.PlainLists.{PlainLists}
use Rattle.c_states.specs.Faults.{AreOnce}
use Rattle.c_states.specs.Known.{has_known_ticket, is_frame, is_guest, is_row, is_run, is_slot, is_table}
use Rattle.c_states.specs.Lists.{kind_from_c, loader_from_c, phase_from_c, stand_from_c}
use Rattle.c_states.specs.States.{Lists}

-- the lists
abbrev pub lists_owned : PlainLists → Lists
lists_owned p =
    record {
      runs = p.runs.items;
      tables = p.tables.items;
      frames = p.frames.items;
      slots =
          p.slots.items;
      loads =
          p.loads.items;
      guests = p.guests.items;
      cpus = p.cpus.items;
      rows = p.rows.items;
    }

-- members whose numbers are all known
abbrev pub AreKnown : {X : Type 0} → (X → Bool) → List X → Type 0
AreKnown known xs = All (λ x. IsTrue (known x)) xs

-- each guest's members are listed under the number of its tree
abbrev pub ReportsGuests : {X : Type 0}
    → (ℕ → List X)
    → (GhostGuest → List X)
    → List GhostGuest
    → Type 0
ReportsGuests told has guests = (v : ℕ) → told (2 + v) ≡ get_or (map has guests) v []

-- these loads are added: a vCPU's loader is the first that is given for it
abbrev pub AreLoadsAdded : List PlainLoad → List PlainLoad → (ℕ → ℕ → Option ℕ) → Type 0
AreLoadsAdded old new loader =
    (slot vcpu : ℕ)
    → loader_from_c new slot vcpu ≡ option_or (loader_from_c old slot vcpu) (loader slot vcpu)

-- loads, whatever the numbers of their vCPUs
abbrev pub AreLoads : List PlainLoad → Type 0
AreLoads xs = All (λ l. l.slot < 64) xs

-- and so of CPUs
abbrev pub is_cpu_well_formed : ℕ → PlainCpu → Bool
is_cpu_well_formed cpus k = nat_lt k.cpu cpus && has_known_ticket k

-- the lists given have known numbers, but for those of vCPUs, and no slot, guest or CPU is there
-- twice. A vCPU may be past the eighth if its slot has more than 8
pub record AreWellFormed (cpus : ℕ) (p : Lists) : Type 0 where
  pub runs : AreKnown is_run p.runs
  pub tables : AreKnown is_table p.tables
  pub frames : AreKnown is_frame p.frames
  pub slots : AreKnown is_slot p.slots
  pub loads : AreLoads p.loads
  pub guests : AreKnown is_guest p.guests
  pub cpus_are : AreKnown (is_cpu_well_formed cpus) p.cpus
  pub rows : AreKnown is_row p.rows
  pub once : AreOnce p

-- contents whose pools are in order, as those are that lists say
abbrev pub in_pool_order : Contents → Contents
in_pool_order x =
    record x {
      shared = record x.shared { free = in_order x.shared.free };
      guest = λ v. ordered (x.guest v);
    }

-- a slot but for its loaded vCPUs
pub record SlotHead : Type 0 where
  pub stand : Stand
  pub generation : ℕ
  pub kind : VmKind
  pub vcpus : ℕ

abbrev pub slot_head_in : GhostSlot → SlotHead
slot_head_in s =
    record { stand = stand_in s.stand; generation = s.generation; kind = s.kind; vcpus = s.vcpus }

abbrev pub slot_head_from_c : PlainSlot → SlotHead
slot_head_from_c s =
    record {
      stand = stand_from_c s.stand;
      generation = s.generation;
      kind = kind_from_c s.kind;
      vcpus = s.vcpus;
    }

-- a guest but for its tree and its pool
pub record GuestHead : Type 0 where
  pub phase : Phase
  pub generation : ℕ
  pub kind : VmKind

abbrev pub guest_head_in : GhostGuest → GuestHead
guest_head_in g = record { phase = phase_in g.phase; generation = g.generation; kind = g.kind }

abbrev pub guest_head_from_c : PlainGuest → GuestHead
guest_head_from_c g =
    record { phase = phase_from_c g.phase; generation = g.generation; kind = kind_from_c g.kind }
