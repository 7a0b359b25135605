-- What a step names, in the model's words.
use Rattle.std.specs.Prelude.{ℕ, Option, Some, None}
use Rattle.reference_model.specs.model.Parts.{Names, shared, shared_and_guest, guest, vms, vms_of, slot_of, loaded_slot, ticket_slot}
use Rattle.reference_model.specs.model.State.{Cpu}
use Rattle.hypercalls.specs.declared.used_parts.GuestBy.{GuestBy}
use Rattle.hypercalls.specs.declared.used_parts.GuestBy.TheVariants.{Vm, Loaded, Ticket}
use Rattle.hypercalls.specs.declared.used_parts.Named.{Named}
use Rattle.hypercalls.specs.declared.used_parts.Named.TheVariants.{Shared, SharedAndGuest, Guest, Vms, VmsOf}

-- the parts
abbrev pub names_by : Named → Names
names_by Shared = shared
names_by (SharedAndGuest by) = shared_and_guest
names_by (Guest by) = guest
names_by Vms = vms
names_by (VmsOf vm) = vms_of vm

-- the slot that a CPU finds
abbrev pub slot_for : Cpu → GuestBy → Option ℕ
slot_for k (Vm vm) = slot_of vm
slot_for k Loaded = loaded_slot k
slot_for k (Ticket stage) = ticket_slot stage k

-- the slot of the Guest part, if there is one
abbrev pub slot_by : Cpu → Named → Option ℕ
slot_by k Shared = None
slot_by k (SharedAndGuest by) = slot_for k by
slot_by k (Guest by) = slot_for k by
slot_by k Vms = None
slot_by k (VmsOf vm) = None
