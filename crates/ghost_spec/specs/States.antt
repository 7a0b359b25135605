-- The reference state that a Ghost represents.
use Rattle.std.specs.Prelude.{◌≡◌, ℕ, List, All, None, get_or, map, length}
use Rattle.reference_model.specs.model.State.{Phase, empty, live, dying, Guest, no_guest, Stand, vacant, reserved, opened, closing, Slot, no_slot, no_cpu, Contents, Rooms, Reference}
use Rattle.ghost_spec.specs.declared.cpu.GhostCpu.{GhostCpu}
use Rattle.ghost_spec.specs.declared.lists.GhostLists.{GhostLists}
use Rattle.ghost_spec.specs.declared.lists.GhostRooms.{GhostRooms}
use Rattle.ghost_spec.specs.declared.parts.GhostGuest.{GhostGuest}
use Rattle.ghost_spec.specs.declared.parts.GhostPhase.{GhostPhase}
use Rattle.ghost_spec.specs.declared.parts.GhostPhase.TheVariants.{Empty, Live, Dying}
use Rattle.ghost_spec.specs.declared.parts.GhostSlot.{GhostSlot}
use Rattle.ghost_spec.specs.declared.parts.GhostStand.{GhostStand}
use Rattle.ghost_spec.specs.declared.parts.GhostStand.TheVariants.{Vacant, Reserved, Opened, Closing}
use Rattle.ghost_spec.specs.Kept.{IsKeptShared, IsKeptGuest, IsKeptCpu}
use Rattle.ghost_trees.specs.Trees.{tree_in_lists}
use Rattle.ghost_spec.specs.Views.{cpu_in, shared_in_lists}

-- the stage of a slot
abbrev pub stand_in : GhostStand → Stand
stand_in Vacant = vacant
stand_in Reserved = reserved
stand_in Opened = opened
stand_in Closing = closing

-- a slot
abbrev pub slot_in : GhostSlot → Slot
slot_in s =
    record {
      stand = stand_in s.stand;
      generation = s.generation;
      kind = s.kind;
      vcpus = s.vcpus;
      loaded = λ i. get_or s.loaded.items i None;
    }

-- the phase of a guest
abbrev pub phase_in : GhostPhase → Phase
phase_in Empty = empty
phase_in Live = live
phase_in Dying = dying

-- a guest
abbrev pub guest_in : GhostGuest → Guest
guest_in g =
    record {
      phase = phase_in g.phase;
      generation = g.generation;
      kind = g.kind;
      tree = tree_in_lists g.tree;
      free = g.free.items;
    }

-- all contents; past a list's end slots and guests are Empty, and CPUs have nothing
abbrev pub contents_in : GhostLists → Contents
contents_in g = record {
  vms = record { slot = λ v. get_or (map slot_in g.vms.items) v (no_slot 1) };
  shared = shared_in_lists g.shared;
  guest = λ v. get_or (map guest_in g.guests.items) v no_guest;
  cpu = λ c. get_or (map cpu_in g.cpus.items) c no_cpu;
}

-- the rooms of all logs, which can store `log` calls each; past a list's end they are empty
abbrev pub rooms_in : ℕ → GhostRooms → Rooms
rooms_in log r =
    record {
      vms = r.vms;
      shared = r.shared;
      guest = λ v. get_or r.guests.items v log;
      cpu = λ c. get_or r.cpus.items c log;
    }

-- the state
abbrev pub ghost_state : GhostLists → Reference
ghost_state g = record { contents = contents_in g; rooms = rooms_in g.layout.config.log g.rooms }

-- each guest is kept
abbrev pub AreKeptGuests : List GhostGuest → Type 0
AreKeptGuests gs = All IsKeptGuest gs

-- each CPU's own state is kept
abbrev pub AreKeptCpus : List GhostCpu → Type 0
AreKeptCpus ks = All IsKeptCpu ks

-- the invariant of a Ghost: lists of the layout's lengths, the coarsest runs, and numbers whose
-- sums are numbers of 64 bits
pub record IsKept (g : GhostLists) : Type 0 where
  pub shared : IsKeptShared g.shared
  pub guests : AreKeptGuests g.guests.items
  pub cpus : AreKeptCpus g.cpus.items
  pub vms_count : length g.vms.items ≡ 64
  pub guests_count : length g.guests.items ≡ 64
  pub cpus_count : length g.cpus.items ≡ g.layout.config.cpus
  pub guest_rooms_count : length g.rooms.guests.items ≡ 64
  pub cpu_rooms_count : length g.rooms.cpus.items ≡ g.layout.config.cpus
