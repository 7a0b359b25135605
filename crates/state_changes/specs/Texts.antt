-- The text of guests, of VM slots and of the CPUs' own states (profile).
use Rattle.std.specs.Prelude.{ℕ, nat_lt, List, ◌++◌, codes, Option, Some, None, if◌then◌else◌, length}
use Rattle.std.specs.Fmt.{decimal}
use Rattle.page_state.specs.declared.entry.PageRange.{PageRange}
use Rattle.page_state.specs.Texts.{text_of_page}
use Rattle.reference_model.specs.declared.changes.Loaded.{Loaded}
use Rattle.reference_model.specs.declared.changes.Stage.{Stage}
use Rattle.reference_model.specs.declared.changes.Stage.TheVariants.{Booked, Installed, Closing, Dying, Finished}
use Rattle.reference_model.specs.declared.changes.Ticket.{Ticket as CpuTicket}
use Rattle.reference_model.specs.model.State.{Guest as ReferenceGuest, Phase, empty, live, dying, Slot, Stand, vacant, reserved, opened, closing}
use Rattle.call_table.specs.declared.step.VmKind.{VmKind}
use Rattle.call_table.specs.Texts.{text_of_vm}
use Rattle.call_table.specs.Words.{text_of_vm_kind}

abbrev pub text_of_stand : Stand → List ℕ
text_of_stand vacant = codes "empty"
text_of_stand reserved = codes "reserved"
text_of_stand opened = codes "open"
text_of_stand closing = codes "closing"

-- a VM slot: its stage, its generation, the kind of its VM, and how many vCPUs this has
pub record SlotHead : Type 0 where
  pub stand : Stand
  pub generation : ℕ
  pub kind : VmKind
  pub vcpus : ℕ

abbrev pub slot_head : Slot → SlotHead
slot_head s = record { stand = s.stand; generation = s.generation; kind = s.kind; vcpus = s.vcpus }

abbrev pub text_of_slot_head : SlotHead → List ℕ
text_of_slot_head s =
    text_of_stand s.stand ++ codes " generation " ++ decimal s.generation ++ codes " "
    ++ text_of_vm_kind s.kind ++ codes " vcpus " ++ decimal s.vcpus

abbrev pub text_of_slot : Slot → List ℕ
text_of_slot s = text_of_slot_head (slot_head s)

abbrev pub text_of_phase : Phase → List ℕ
text_of_phase empty = codes "empty"
text_of_phase live = codes "live"
text_of_phase dying = codes "dying"

-- a guest: its phase, its generation, its kind, and how many frames of its pool are free
pub record GuestHead : Type 0 where
  pub phase : Phase
  pub generation : ℕ
  pub kind : VmKind
  pub free : ℕ

abbrev pub guest_head : ReferenceGuest → GuestHead
guest_head g =
    record { phase = g.phase; generation = g.generation; kind = g.kind; free = length g.free }

abbrev pub guest_line : Phase → ℕ → VmKind → ℕ → List ℕ
guest_line phase generation kind free =
    text_of_phase phase ++ codes " generation " ++ decimal generation ++ codes " "
    ++ text_of_vm_kind kind ++ codes " free " ++ decimal free

-- only the phase of an Empty guest
abbrev pub guest_in_phase : Phase → ℕ → VmKind → ℕ → List ℕ
guest_in_phase empty generation kind free = text_of_phase empty
guest_in_phase phase generation kind free = guest_line phase generation kind free

abbrev pub text_of_guest_head : GuestHead → List ℕ
text_of_guest_head g = guest_in_phase g.phase g.generation g.kind g.free

abbrev pub text_of_guest : ReferenceGuest → List ℕ
text_of_guest g = text_of_guest_head (guest_head g)

-- the CPU that has a vCPU loaded
abbrev pub text_of_holder : Option ℕ → List ℕ
text_of_holder None = codes "no cpu"
text_of_holder (Some cpu) = codes "cpu " ++ decimal cpu

-- the same of a vCPU of a slot; a VM has no vCPU past 7
abbrev pub text_of_vcpu : Slot → ℕ → List ℕ
text_of_vcpu s vcpu = if nat_lt vcpu 8 then text_of_holder (s.loaded vcpu) else codes "no vcpu"

-- the vCPU that a CPU has loaded
abbrev pub text_of_loaded : Option Loaded → List ℕ
text_of_loaded None = codes "nothing"
text_of_loaded (Some l) = text_of_vm l.vm ++ codes " vcpu " ++ decimal l.vcpu

-- the frames in its hand: the first, and how many
abbrev pub text_of_hand : Option PageRange → List ℕ
text_of_hand None = codes "empty"
text_of_hand (Some frames) = text_of_page frames.first.0 ++ codes " " ++ decimal frames.count

abbrev pub text_of_stage : Stage → List ℕ
text_of_stage Booked = codes "booked"
text_of_stage Installed = codes "installed"
text_of_stage Closing = codes "closing"
text_of_stage Dying = codes "dying"
text_of_stage Finished = codes "finished"

-- its ticket: the VM, its kind, and how far it has come
abbrev pub text_of_ticket : Option CpuTicket → List ℕ
text_of_ticket None = codes "none"
text_of_ticket (Some t) =
    text_of_vm t.vm ++ codes " " ++ text_of_vm_kind t.kind ++ codes " " ++ text_of_stage t.stage
