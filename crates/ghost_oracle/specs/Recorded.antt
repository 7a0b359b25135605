-- The state that a record of given parts describes: it has all that they hold, and the rest is
-- empty.
use Rattle.std.specs.Borrow.{Bor}
use Rattle.std.specs.Option.{option_copied}
use Rattle.std.specs.Prelude.{◌≡◌, ℕ, List, get_or, map, Option, Some, None, is_some, option_map}
use Rattle.page_state.specs.Layouts.{Layout}
use Rattle.reference_model.specs.model.Parts.{Names, uses_shared, uses_vms}
use Rattle.reference_model.specs.model.State.{Contents, Rooms, Reference, all_rooms, blank, no_guest, no_shared, no_slot, no_vms, put_at}
use Rattle.reference_model.specs.model.Used.{Used, UsedRooms, put_back, put_rooms}
use Rattle.ghost_spec.specs.declared.parts.GhostSlot.{GhostSlot}
use Rattle.ghost_spec.specs.States.{slot_in}
use Rattle.part_types.specs.declared.parts.CpuState.{CpuState}
use Rattle.part_types.specs.declared.parts.GuestPart.{GuestPart}
use Rattle.part_types.specs.declared.parts.SharedPart.{SharedPart}
use Rattle.part_types.specs.declared.parts.VmPart.{VmPart}
use Rattle.part_types.specs.View.{cpu_of, guest_held, shared_of, vm_slots}
use Rattle.hypercalls.specs.Stands.{at_place}

-- the given parts: the VM part, the Shared part and the Guest part of a slot, each or none, and a
-- CPU's own state
pub record Given (A : Type 0) : Type 0 where
  pub vms : Option VmPart
  pub shared : Option (SharedPart A)
  pub guest : Option (ℕ × GuestPart A)
  pub own : CpuState

-- these
abbrev pub given : {A : Type 0}
    → Option VmPart
    → Option (SharedPart A)
    → Option (ℕ × GuestPart A)
    → CpuState
    → Given A
given v s g k = record { vms = v; shared = s; guest = g; own = k }

-- the same for references to parts
abbrev pub given_by : {A : Type 0}
    → Option (Bor VmPart)
    → Option (Bor (SharedPart A))
    → Option (ℕ × Bor (GuestPart A))
    → CpuState
    → Given A
given_by v s g k = given (option_copied v) (option_copied s) (option_map (λ p. (p.0, p.1.now)) g) k

-- a list's slots are those of the VM part, if one is given, and otherwise Empty
abbrev pub AreSlotsGiven : Option (Bor VmPart) → List GhostSlot → Type 0
AreSlotsGiven v slots =
    (slot : ℕ)
    → get_or (map slot_in slots) slot (no_slot 1)
    ≡ (at_place blank.vms vm_slots (option_copied v)).slot slot

-- a function with the state of the given part at its number, if one is given
abbrev pub put_given : {P X : Type 0} → (ℕ → X) → (P → X) → Option (ℕ × P) → ℕ → X
put_given f view None = f
put_given f view (Some p) = put_at f p.0 (view p.1)

module _ {A : Type 0} (x : Given A) where
  -- what the parts and the CPU hold, put into contents in which nothing is mapped, held or loaded
  abbrev pub recorded_contents : Contents
  recorded_contents = record {
    vms = at_place blank.vms vm_slots x.vms;
    shared = at_place blank.shared shared_of x.shared;
    guest = put_given blank.guest guest_held x.guest;
    cpu = put_at blank.cpu x.own.id (cpu_of x.own);
  }

  -- the rooms of their logs, put into those of empty logs
  abbrev pub recorded_rooms : Rooms → Rooms
  recorded_rooms r = record {
    vms = at_place r.vms (λ v. v.log.room) x.vms;
    shared = at_place r.shared (λ s. s.log.room) x.shared;
    guest = put_given r.guest (λ g. g.log.room) x.guest;
    cpu = put_at r.cpu x.own.id x.own.log.room;
  }

  -- the state
  abbrev pub recorded : Layout → Reference
  recorded l =
      record { contents = recorded_contents; rooms = recorded_rooms (all_rooms l.config.log) }

  -- the given parts, as those that a call uses
  abbrev pub used_given : Used
  used_given =
      record {
        vms = at_place no_vms vm_slots x.vms;
        shared = at_place no_shared shared_of x.shared;
        guest = at_place no_guest (λ g. guest_held g.1) x.guest;
        cpu = cpu_of x.own;
      }

  -- the rooms of their logs
  abbrev pub rooms_given : UsedRooms
  rooms_given =
      record {
        vms = at_place 0 (λ v. v.log.room) x.vms;
        shared =
            at_place 0 (λ s. s.log.room) x.shared;
        guest =
            at_place 0 (λ g. g.1.log.room) x.guest;
        cpu = x.own.log.room;
      }

  -- only the parts that a call uses are given: those that it names, and the Guest part of its slot
  pub record IsGivenFor (n : Names) (slot : Option ℕ) : Type 0 where
    pub vms : is_some x.vms ≡ uses_vms n
    pub shared : is_some x.shared ≡ uses_shared n slot
    pub guest : option_map (λ g. g.0) x.guest ≡ slot

-- if only the parts that a call uses are given, the record is the state that the call uses, put
-- into a state in which nothing is mapped, held or loaded, and each log is empty
abbrev pub RecordsUsed : Type 0 → Type 0
RecordsUsed A =
    (l : Layout) (n : Names) (slot : Option ℕ) (x : Given A)
    → IsGivenFor x n slot
    → recorded x l
    ≡ record {
      contents = put_back n slot x.own.id blank (used_given x);
      rooms = put_rooms n slot x.own.id (all_rooms l.config.log) (rooms_given x);
    }
