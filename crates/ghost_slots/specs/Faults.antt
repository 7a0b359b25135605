-- Disagreements of slots, loads, tickets, guests and hands.
use Rattle.std.specs.Prelude.{◌≡◌, ◌≢◌, ℕ, ◌≤◌, ◌<◌, Option, Some}
use Rattle.page_state.specs.declared.entry.PageRange.{PageRange}
use Rattle.reference_model.specs.declared.changes.Loaded.{Loaded}
use Rattle.reference_model.specs.declared.changes.Ticket.{Ticket}
use Rattle.reference_model.specs.claims.Sound.{HasLoaded, HasTicket, IsGuestOf, IsOne, IsTicketOf}
use Rattle.reference_model.specs.model.State.{Contents, empty, live, vacant, reserved, opened, closing}
use Rattle.ghost_slots.specs.declared.fault.SlotFault.{SlotFault}
use Rattle.ghost_slots.specs.declared.fault.SlotFault.TheVariants.{Load, Hand, Ticket as TicketFault, Vcpu, Guest, Tickets}

-- the slot of a CPU's loaded vCPU names the CPU for it, and has that generation
abbrev pub LoadOn : Contents → ℕ → Option Loaded → Type 0
LoadOn s c o =
    (k : Loaded)
    → o ≡ Some k
    → ((s.vms.slot k.vm.slot).loaded k.vcpu ≡ Some c)
    × ((s.vms.slot k.vm.slot).generation ≡ k.vm.generation)

-- a hand has a frame
abbrev pub HandOn : Option PageRange → Type 0
HandOn o = (r : PageRange) → o ≡ Some r → 1 ≤ r.count

-- a ticket's slot is in the stage of the ticket, with its generation and kind
abbrev pub TicketOn : Contents → Option Ticket → Type 0
TicketOn s o = (t : Ticket) → o ≡ Some t → IsTicketOf s t

-- a CPU's own state is right
pub record CpuFits (s : Contents) (c : ℕ) : Type 0 where
  pub load : LoadOn s c (s.cpu c).loaded
  pub hand : HandOn (s.cpu c).hand
  pub ticket : TicketOn s (s.cpu c).ticket

-- a vCPU for which the slot names a CPU: it is one of eight, the slot is Open, and the CPU has it
-- loaded
abbrev pub VcpuOn : Contents → ℕ → ℕ → Option ℕ → Type 0
VcpuOn s v i o =
    (c : ℕ) → o ≡ Some c → (i < 8) × ((s.vms.slot v).stand ≡ opened) × HasLoaded s v i c

abbrev pub VcpuFits : Contents → ℕ → ℕ → Type 0
VcpuFits s v i = VcpuOn s v i ((s.vms.slot v).loaded i)

abbrev pub AreVcpusFitting : Contents → ℕ → Type 0
AreVcpusFitting s v = (i : ℕ) → VcpuFits s v i

-- the first vCPU of the slot that isn't so
abbrev pub IsFirstVcpu : Contents → ℕ → ℕ → Type 0
IsFirstVcpu s v i = ((j : ℕ) → j < i → VcpuFits s v j) × (VcpuFits s v i → ⊥)

-- a slot and its guest agree: an Open slot's guest is Live, a vacant slot's Empty, and one that
-- isn't Empty is of the slot
pub record GuestAgrees (s : Contents) (v : ℕ) : Type 0 where
  pub open_live : (s.vms.slot v).stand ≡ opened → (s.guest v).phase ≡ live
  pub vacant_empty : (s.vms.slot v).stand ≡ vacant → (s.guest v).phase ≡ empty
  pub same_vm : (s.guest v).phase ≢ empty → IsGuestOf s v

-- a Reserved or Closing slot is named by exactly one ticket
pub record HasItsTicket (s : Contents) (v : ℕ) : Type 0 where
  pub reserved_once : (s.vms.slot v).stand ≡ reserved → IsOne (HasTicket s v)
  pub closing_once : (s.vms.slot v).stand ≡ closing → IsOne (HasTicket s v)

-- a slot is right
pub record SlotFits (s : Contents) (v : ℕ) : Type 0 where
  pub vcpus : (i : ℕ) → VcpuFits s v i
  pub guest : GuestAgrees s v
  pub tickets : HasItsTicket s v

-- all CPUs' own states and the slots below one are right
pub record AreSlotsBelow (s : Contents) (v : ℕ) : Type 0 where
  pub cpus : (c : ℕ) → CpuFits s c
  pub slots : (u : ℕ) → u < v → SlotFits s u

-- the first that isn't right: CPUs come by number, then slots
abbrev pub IsSlotFault : Contents → SlotFault → Type 0
IsSlotFault s (Load c) = ((d : ℕ) → d < c → CpuFits s d) × (LoadOn s c (s.cpu c).loaded → ⊥)
IsSlotFault s (Hand c) =
    ((d : ℕ) → d < c → CpuFits s d) × LoadOn s c (s.cpu c).loaded × (HandOn (s.cpu c).hand → ⊥)
IsSlotFault s (TicketFault c) =
    ((d : ℕ) → d < c → CpuFits s d)
    × LoadOn s c (s.cpu c).loaded
    × HandOn (s.cpu c).hand
    × (TicketOn s (s.cpu c).ticket → ⊥)
IsSlotFault s (Vcpu v i) =
    AreSlotsBelow s v × ((j : ℕ) → j < i → VcpuFits s v j) × (VcpuFits s v i → ⊥)
IsSlotFault s (Guest v) = AreSlotsBelow s v × ((j : ℕ) → VcpuFits s v j) × (GuestAgrees s v → ⊥)
IsSlotFault s (Tickets v) =
    AreSlotsBelow s v × ((j : ℕ) → VcpuFits s v j) × GuestAgrees s v × (HasItsTicket s v → ⊥)
