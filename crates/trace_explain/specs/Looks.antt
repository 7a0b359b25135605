-- The places that a step looks at, and their contents (profile).
use Rattle.std.specs.Prelude.{ℕ, nat_lt, List, [], ◌∷◌, ◌++◌, codes, Option, Some, None, if◌then◌else◌, map}
use Rattle.std.specs.Fmt.{decimal}
use Rattle.page_state.specs.declared.entry.Entry.{Entry}
use Rattle.page_state.specs.declared.entry.Entry.TheVariants.{Leaf}
use Rattle.page_state.specs.declared.entry.PageRange.{PageRange}
use Rattle.page_state.specs.Layouts.{hyp_page}
use Rattle.page_state.specs.Regions.{Memory, has_memory}
use Rattle.page_state.specs.Texts.{text_of_entry, text_of_row}
use Rattle.reference_model.specs.declared.changes.Loaded.{Loaded}
use Rattle.reference_model.specs.declared.changes.Ticket.{Ticket as CpuTicket}
use Rattle.call_table.specs.declared.step.Step.{Step}
use Rattle.call_table.specs.declared.step.Step.TheVariants as steps
use Rattle.trace_text.specs.Worlds.{Machine, shared_free_count}
use Rattle.trace_explain.specs.declared.place.Place.{Place}
use Rattle.trace_explain.specs.declared.place.Place.TheVariants.{Host, Hyp, GuestPage, Owner, FreeShared, Guest, Vm, Vcpu, Loaded as LoadedPlace, Hand, Ticket}
use Rattle.trace_explain.specs.Texts.{look_line, name_of, text_of_guest, text_of_hand, text_of_loaded, text_of_slot, text_of_ticket, text_of_vcpu}

-- the contents in a machine, for a step of this CPU
abbrev pub text_at_place : Machine → ℕ → Place → List ℕ
text_at_place m cpu (Host page) = text_of_entry (m.state.contents.shared.host.map page)
text_at_place m cpu (Hyp page) = text_of_entry (m.state.contents.shared.hyp.map page)
text_at_place m cpu (GuestPage slot page) =
    text_of_entry ((m.state.contents.guest slot).tree.map page)
text_at_place m cpu (Owner frame) =
    if has_memory m.layout.memory frame then text_of_row (m.state.contents.shared.row frame)
    else codes "no memory"
text_at_place m cpu FreeShared = decimal (shared_free_count m)
text_at_place m cpu (Guest slot) = text_of_guest (m.state.contents.guest slot)
text_at_place m cpu (Vm slot) =
    if nat_lt slot 64 then text_of_slot (m.state.contents.vms.slot slot) else codes "no slot"
text_at_place m cpu (Vcpu slot vcpu) =
    if nat_lt slot 64 then text_of_vcpu (m.state.contents.vms.slot slot) vcpu else codes "no slot"
text_at_place m cpu LoadedPlace = text_of_loaded (m.state.contents.cpu cpu).loaded
text_at_place m cpu Hand = text_of_hand (m.state.contents.cpu cpu).hand
text_at_place m cpu Ticket = text_of_ticket (m.state.contents.cpu cpu).ticket

-- a memory frame: the host's entry of it, the hypervisor's, and its owner row
abbrev pub frame_places : Memory → ℕ → List Place
frame_places memory frame =
    if has_memory memory frame then Host frame ∷ Hyp (hyp_page frame) ∷ Owner frame ∷ FreeShared
    ∷ []
    else []

-- one that host and guest share or give each other: the host's entry and the row
abbrev pub lent_places : Memory → ℕ → List Place
lent_places memory frame =
    if has_memory memory frame then Host frame ∷ Owner frame ∷ FreeShared ∷ [] else []

-- the first frame of a hand
abbrev pub hand_places : Memory → Option PageRange → List Place
hand_places memory None = []
hand_places memory (Some frames) = frame_places memory frames.first.0

-- the frame of a leaf
abbrev pub leaf_places : Memory → Entry → List Place
leaf_places memory (Leaf frame prot kind state) = lent_places memory frame.0
leaf_places memory other = []

-- the slot of the VM whose vCPU is loaded; 64, which is no slot, if none is
abbrev pub slot_of_loaded : Option Loaded → ℕ
slot_of_loaded None = 64
slot_of_loaded (Some l) = l.vm.slot

-- the slot of a ticket
abbrev pub slot_of_ticket : Option CpuTicket → ℕ
slot_of_ticket None = 64
slot_of_ticket (Some t) = t.vm.slot

-- these places, if there is such a slot
abbrev pub in_slot : ℕ → List Place → List Place
in_slot slot places = if nat_lt slot 64 then places else []

-- a page of a guest, and the frame that it gets
abbrev pub given_places : Memory → ℕ → ℕ → ℕ → List Place
given_places memory slot page frame =
    in_slot slot (Guest slot ∷ GuestPage slot page ∷ lent_places memory frame)

-- a page of a guest, and the frame that it maps
abbrev pub page_places : Machine → ℕ → ℕ → List Place
page_places m slot page =
    in_slot slot
    (Guest slot ∷ GuestPage slot page
    ∷ leaf_places m.layout.memory ((m.state.contents.guest slot).tree.map page))

-- a guest, a VM slot, and a vCPU
abbrev pub guest_places : ℕ → List Place
guest_places slot = in_slot slot (Guest slot ∷ [])

abbrev pub vm_places : ℕ → List Place
vm_places slot = in_slot slot (Vm slot ∷ [])

abbrev pub vcpu_places : ℕ → ℕ → List Place
vcpu_places slot vcpu = in_slot slot (Vm slot ∷ Vcpu slot vcpu ∷ [])

-- what there is of a machine for a step of a CPU
module _ (m : Machine) (cpu : ℕ) where
  abbrev pub loaded_slot : ℕ
  loaded_slot = slot_of_loaded (m.state.contents.cpu cpu).loaded

  abbrev pub ticket_slot : ℕ
  ticket_slot = slot_of_ticket (m.state.contents.cpu cpu).ticket

  -- what a step looks at; of a range the first page
  abbrev pub places_of : Step → List Place
  places_of (steps.ShareHyp pfn) = frame_places m.layout.memory pfn
  places_of (steps.UnshareHyp pfn) = frame_places m.layout.memory pfn
  places_of (steps.DonateHyp pfn n) = frame_places m.layout.memory pfn
  places_of (steps.HypDonateHost pfn n) = frame_places m.layout.memory pfn
  places_of (steps.HostAbort page) = Host page ∷ FreeShared ∷ []
  places_of (steps.HostTranslate page) = Host page ∷ []
  places_of (steps.HypTranslate page) = Hyp page ∷ []
  places_of (steps.OwnerOf pfn) = Owner pfn ∷ []
  places_of (steps.Fund pfn n) = Hand ∷ frame_places m.layout.memory pfn
  places_of steps.Unfund = Hand ∷ hand_places m.layout.memory (m.state.contents.cpu cpu).hand
  places_of (steps.ShareGuest pfn gfn prot n) =
      LoadedPlace ∷ given_places m.layout.memory loaded_slot gfn pfn
  places_of (steps.UnshareGuest vm gfn) = page_places m vm.slot gfn
  places_of (steps.DonateGuest pfn gfn n) =
      LoadedPlace ∷ given_places m.layout.memory loaded_slot gfn pfn
  places_of (steps.GuestShareHost gfn) = LoadedPlace ∷ page_places m loaded_slot gfn
  places_of (steps.GuestUnshareHost gfn) = LoadedPlace ∷ page_places m loaded_slot gfn
  places_of steps.Install = Ticket ∷ Hand ∷ guest_places ticket_slot
  places_of (steps.Topup vm) = Hand ∷ guest_places vm.slot
  places_of (steps.ReclaimPage vm gfn) = page_places m vm.slot gfn
  places_of (steps.ReclaimPool vm) = guest_places vm.slot
  places_of steps.FinishGuest = Ticket ∷ guest_places ticket_slot
  places_of (steps.GuestRelax gfn prot) = LoadedPlace ∷ page_places m loaded_slot gfn
  places_of (steps.GuestTranslate vm gfn) = page_places m vm.slot gfn
  places_of steps.MarkDying = Ticket ∷ guest_places ticket_slot
  places_of (steps.VmReserve kind vcpus) = Ticket ∷ []
  places_of steps.VmOpen = Ticket ∷ vm_places ticket_slot
  places_of (steps.VcpuLoad vm vcpu) = LoadedPlace ∷ vcpu_places vm.slot vcpu
  places_of steps.VcpuPut = LoadedPlace ∷ vm_places loaded_slot
  places_of (steps.Teardown vm) = Ticket ∷ vm_places vm.slot
  places_of steps.VmRelease = Ticket ∷ vm_places ticket_slot

-- a place, and its contents before a step
abbrev pub Look : Type 0
Look = Place × List ℕ

-- places, with their contents for a step of a CPU, and so those that a step looks at
abbrev pub seen_at : Machine → ℕ → List Place → List Look
seen_at m cpu places = map (λ place. (place, text_at_place m cpu place)) places

abbrev pub seen_by : Machine → ℕ → Step → List Look
seen_by m cpu step = seen_at m cpu (places_of m cpu step)

-- what a step of a CPU sees before it; nothing before the boot
abbrev pub seen : Option Machine → Option (ℕ × Step) → List Look
seen (Some m) (Some (cpu, step)) = seen_by m cpu step
seen machine asked = []

-- a line for each of these that is so in a machine after it
abbrev pub look_lines : Machine → ℕ → List Look → List ℕ
look_lines m cpu [] = []
look_lines m cpu ((place, before) ∷ more) =
    look_line (name_of place) before (text_at_place m cpu place) ++ look_lines m cpu more

-- the lines of what a step looked at, if there is a machine and a step
abbrev pub looked : Option Machine → Option (ℕ × Step) → List Look → List ℕ
looked (Some m) (Some (cpu, step)) looks = look_lines m cpu looks
looked machine asked looks = []
