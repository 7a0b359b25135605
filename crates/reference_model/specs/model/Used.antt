-- The parts of a state that a call uses, and the rooms of the logs that store it.
use Rattle.std.specs.Prelude.{ℕ, Option, Some, None, if◌then◌else◌}
use Rattle.reference_model.specs.model.Parts.{Names, uses_vms, uses_shared}
use Rattle.reference_model.specs.model.State.{Vms, Shared, Guest, Cpu, Contents, Rooms, put_at, no_vms, no_shared, no_guest}

-- the parts that a call uses and its CPU's own state; a part that it doesn't use is blank
pub record Used : Type 0 where
  pub vms : Vms
  pub shared : Shared
  pub guest : Guest
  pub cpu : Cpu

-- the parts of a call that uses only the Shared part
abbrev pub used_alone : Shared → Cpu → Used
used_alone s k = record { vms = no_vms; shared = s; guest = no_guest; cpu = k }

-- the parts of a call that uses only the VM part
abbrev pub vms_alone : Vms → Cpu → Used
vms_alone v k = record { vms = v; shared = no_shared; guest = no_guest; cpu = k }

-- the parts of a call that uses only a Guest part
abbrev pub guest_alone : Guest → Cpu → Used
guest_alone g k = record { vms = no_vms; shared = no_shared; guest = g; cpu = k }

-- the parts of a call that uses the Shared part and a Guest part
abbrev pub with_guest : Shared → Guest → Cpu → Used
with_guest s g k = record { vms = no_vms; shared = s; guest = g; cpu = k }

-- the guest of a slot; `no_guest` if there is no slot
abbrev pub guest_at : (ℕ → Guest) → Option ℕ → Guest
guest_at guests None = no_guest
guest_at guests (Some v) = guests v

-- the guests with another one at a slot; the same guests if there is no slot
abbrev pub put_guest : (ℕ → Guest) → Option ℕ → Guest → ℕ → Guest
put_guest guests None g = guests
put_guest guests (Some v) g = put_at guests v g

-- the rooms of the logs that store a call; 0 for a part that it doesn't use
pub record UsedRooms : Type 0 where
  pub vms : ℕ
  pub shared : ℕ
  pub guest : ℕ
  pub cpu : ℕ

-- the rooms of the Shared part's log and the CPU's, for a call that uses only the Shared part
abbrev pub rooms_alone : ℕ → ℕ → UsedRooms
rooms_alone room own = record { vms = 0; shared = room; guest = 0; cpu = own }

-- the room of a slot's log; 0 if there is no slot
abbrev pub room_at : (ℕ → ℕ) → Option ℕ → ℕ
room_at rooms None = 0
room_at rooms (Some v) = rooms v

-- the rooms with another one at a slot; the same rooms if there is no slot
abbrev pub put_room : (ℕ → ℕ) → Option ℕ → ℕ → ℕ → ℕ
put_room rooms None n = rooms
put_room rooms (Some v) n = put_at rooms v n

module _ (n : Names) (slot : Option ℕ) (c : ℕ) where
  -- the parts of a state that a call uses, logs apart
  unfoldable pub used_of : Contents → Used
  used_of s = record {
    vms = if uses_vms n then s.vms else no_vms;
    shared = if uses_shared n slot then s.shared else no_shared;
    guest = guest_at s.guest slot;
    cpu = s.cpu c;
  }

  -- a state with these in place of the parts that the call uses
  unfoldable pub put_back : Contents → Used → Contents
  put_back s x = record {
    vms = if uses_vms n then x.vms else s.vms;
    shared = if uses_shared n slot then x.shared else s.shared;
    guest = put_guest s.guest slot x.guest;
    cpu = put_at s.cpu c x.cpu;
  }

  -- the rooms of the logs that store the call
  unfoldable pub rooms_of : Rooms → UsedRooms
  rooms_of r = record {
    vms = if uses_vms n then r.vms else 0;
    shared = if uses_shared n slot then r.shared else 0;
    guest = room_at r.guest slot;
    cpu = r.cpu c;
  }

  -- the rooms with these in place of those of the logs that the call uses
  unfoldable pub put_rooms : Rooms → UsedRooms → Rooms
  put_rooms r x = record {
    vms = if uses_vms n then x.vms else r.vms;
    shared = if uses_shared n slot then x.shared else r.shared;
    guest = put_room r.guest slot x.guest;
    cpu = put_at r.cpu c x.cpu;
  }
