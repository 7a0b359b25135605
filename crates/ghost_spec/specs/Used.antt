-- The parts that a call uses, on lists.
use Rattle.std.specs.Prelude.{◌≡◌, ℕ, Bool, true, false, ◌&&◌, ◌==◌, List, Option, get_or, is_some, length, map, if◌then◌else◌}
use Rattle.descriptor.specs.declared.State.TheVariants.{Owned}
use Rattle.descriptor.specs.declared.Prot.TheVariants.{RWX}
use Rattle.page_state.specs.declared.entry.Entry.{Entry}
use Rattle.page_state.specs.declared.entry.Entry.TheVariants.{Unmapped}
use Rattle.page_state.specs.EntryTests.{is_in, is_free_page, is_unmapped, entry_frame, leaf}
use Rattle.page_state.specs.Layouts.{hyp_page}
use Rattle.reference_model.specs.model.Parts.{uses_vms, uses_shared}
use Rattle.reference_model.specs.model.Rules.{names, guest_slot}
use Rattle.reference_model.specs.model.SharedRules.{is_plain}
use Rattle.reference_model.specs.model.State.{Vms, Shared, Guest, Cpu, Contents, Rooms, no_slot, no_guest}
use Rattle.reference_model.specs.model.Step.{stored}
use Rattle.reference_model.specs.model.Used.{Used, put_back, put_rooms, rooms_of as used_rooms_of, used_of}
use Rattle.call_table.specs.declared.step.Step.{Step}
use Rattle.ghost_spec.specs.declared.lists.GhostLists.{GhostLists}
use Rattle.ghost_spec.specs.declared.parts.GhostGuest.{GhostGuest}
use Rattle.ghost_spec.specs.declared.parts.GhostSlot.{GhostSlot}
use Rattle.ghost_spec.specs.declared.step_uses.StepUses.{StepUses}
use Rattle.ghost_spec.specs.declared.used.GhostUsed.{GhostUsed}
use Rattle.ghost_spec.specs.Kept.{IsKeptShared, IsKeptGuest, IsKeptCpu, IsLowSlot}
use Rattle.ghost_spec.specs.States.{contents_in, slot_in, guest_in}
use Rattle.ghost_spec.specs.Views.{cpu_in, shared_in_lists}

-- a step on the Shared part and a guest; on neither if no slot is found
abbrev pub both_uses : Step → Option ℕ → StepUses
both_uses step slot =
    record { step = step; slot = slot; has_vms = false; has_shared = is_some slot }

-- a step on a guest alone, if a slot is found
abbrev pub guest_uses : Step → Option ℕ → StepUses
guest_uses step slot = record { step = step; slot = slot; has_vms = false; has_shared = false }

-- the parts are those that the step uses, if its slot is the one that was found
pub record AreUsed (u : StepUses) : Type 0 where
  pub vms : u.has_vms ≡ uses_vms (names u.step)
  pub shared : u.has_shared ≡ uses_shared (names u.step) u.slot
  pub low : IsLowSlot u.slot

-- the parts that a step of a CPU uses
pub record IsUsesOf (k : Cpu) (step : Step) (u : StepUses) : Type 0 where
  pub asked : u.step ≡ step
  pub slot : u.slot ≡ guest_slot k u.step
  pub used : AreUsed u

-- the VM part; past the list's end slots are Empty
abbrev pub vms_in : List GhostSlot → Vms
vms_in slots = record { slot = λ v. get_or (map slot_in slots) v (no_slot 1) }

-- the guests; past the list's end they are Empty
abbrev pub guests_in : List GhostGuest → ℕ → Guest
guests_in guests v = get_or (map guest_in guests) v no_guest

-- rooms of logs; past the list's end those of empty logs, each of which can store `log` calls
abbrev pub rooms_of : ℕ → List ℕ → ℕ → ℕ
rooms_of log rooms v = get_or rooms v log

-- what a call uses
abbrev pub used_in : GhostUsed → Used
used_in u =
    record {
      vms = vms_in u.vms.items;
      shared = shared_in_lists u.shared;
      guest = guest_in u.guest;
      cpu = cpu_in u.own;
    }

-- the lists of the parts that a call uses meet the invariant
pub record IsKeptUsed (u : GhostUsed) : Type 0 where
  pub shared : IsKeptShared u.shared
  pub guest : IsKeptGuest u.guest
  pub own : IsKeptCpu u.own

-- the parts that a call uses were taken from lists: they are the lists' parts, and meet the
-- invariant
pub record IsTaken (step : Step) (slot : Option ℕ) (cpu : ℕ) (g : GhostLists)
    (u : GhostUsed) : Type 0 where
  pub used : used_in u ≡ used_of (names step) slot cpu (contents_in g)
  pub kept : IsKeptUsed u
  pub count : uses_vms (names step) ≡ true → length u.vms.items ≡ 64

-- two contents are the same apart from the parts that a call uses, which are put back
abbrev pub IsSameElsewhere : Step → Option ℕ → ℕ → Contents → Contents → Type 0
IsSameElsewhere step slot cpu s t =
    (x : Used) → put_back (names step) slot cpu t x ≡ put_back (names step) slot cpu s x

-- the rooms once the log of each part that a call uses has stored it
abbrev pub rooms_after : Step → Option ℕ → ℕ → Rooms → Rooms
rooms_after step slot cpu r =
    put_rooms (names step) slot cpu r (stored (used_rooms_of (names step) slot cpu r))

-- the host's page of the frame is free to give, and the hypervisor's page of it unmapped
abbrev pub may_donate_frame : Shared → ℕ → Bool
may_donate_frame s f = is_free_page (s.host.map f) && is_unmapped (s.hyp.map (hyp_page f))

-- the host's page of the frame is free to give, and a page of the guest unmapped
abbrev pub may_give_frame : Shared → Guest → ℕ → ℕ → Bool
may_give_frame s g f page = is_free_page (s.host.map f) && is_unmapped (g.tree.map page)

-- the hypervisor owns the frame, and it is in no other use
abbrev pub may_return_frame : Shared → ℕ → Bool
may_return_frame s f =
    (s.row f).owner.0 == 1 && is_plain (s.row f).usage && is_in Owned (s.hyp.map (hyp_page f))

-- the host's new entry for a Dying guest's page: its own frame again if the guest shared or
-- borrowed it, unmapped if the guest owned it
abbrev pub reclaimed : Entry → Entry
reclaimed e = if is_in Owned e then Unmapped else leaf RWX (entry_frame e) Owned
