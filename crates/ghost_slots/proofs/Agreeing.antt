-- Slots agree just where each CPU's own state and each slot is right.
use Rattle.std.proofs.Common.{◌≡◌, ℕ, ◌≤◌}
use Rattle.reference_model.specs.help.Conditions.{SlotsFit}
use Rattle.reference_model.specs.model.State.{Contents, vacant}
use Rattle.ghost_slots.specs.declared.fault.SlotFault.TheVariants.{Load, Hand, Ticket, Vcpu, Guest, Tickets}
use Rattle.ghost_slots.specs.Faults.{CpuFits, SlotFits}
use Rattle.ghost_slots.specs.Laws.{FaultsAreReal}

cpu-fits : (s : Contents) → SlotsFit s → (c : ℕ) → CpuFits s c
cpu-fits s h c =
    record {
      load = λ k e. h.agree.loads.loaded c k e;
      hand = λ r e. h.some_hand c r e;
      ticket = λ t e. h.agree.tickets.ticket c t e;
    }

slot-fits : (s : Contents) → SlotsFit s → (v : ℕ) → SlotFits s v
slot-fits s h v = record {
  vcpus = λ i c e. let x = h.agree.loads.loads v i c e in (h.few_vcpus v i c e, x.0, x.1);
  guest =
      record {
        open_live = h.agree.guests.open_live v;
        vacant_empty = h.agree.guests.vacant_empty v;
        same_vm = h.agree.guests.same_vm v;
      };
  tickets = record { reserved_once = h.agree.tickets.reserved_once v; closing_once = h.agree.tickets.closing_once v };
}

pub slots-fit : (s : Contents)
    → ((c : ℕ) → CpuFits s c)
    → ((v : ℕ) → SlotFits s v)
    → ((v : ℕ) → 64 ≤ v → (s.vms.slot v).stand ≡ vacant)
    → SlotsFit s
slots-fit s cpus slots few = record {
  agree = record {
    loads =
        record { loaded = λ c k e. (cpus c).load k e; loads = λ v i c e. let x = (slots v).vcpus i c e in (x.1, x.2) };
    guests =
        record {
          open_live = λ v. (slots v).guest.open_live;
          vacant_empty = λ v. (slots v).guest.vacant_empty;
          same_vm = λ v. (slots v).guest.same_vm;
        };
    tickets =
        record {
          ticket = λ c t e. (cpus c).ticket t e;
          reserved_once = λ v. (slots v).tickets.reserved_once;
          closing_once = λ v. (slots v).tickets.closing_once;
        };
  };
  few_slots = few;
  few_vcpus = λ v i c e. ((slots v).vcpus i c e).0;
  some_hand = λ c r e. (cpus c).hand r e;
}

pub are-real : FaultsAreReal
are-real s (Load c) f h = f.1 (cpu-fits s h c).load
are-real s (Hand c) f h = f.2 (cpu-fits s h c).hand
are-real s (Ticket c) f h = f.3 (cpu-fits s h c).ticket
are-real s (Vcpu v i) f h = f.2 ((slot-fits s h v).vcpus i)
are-real s (Guest v) f h = f.2 (slot-fits s h v).guest
are-real s (Tickets v) f h = f.3 (slot-fits s h v).tickets
