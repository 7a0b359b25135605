-- The effect of each change, as data, on the reference state.
use Rattle.std.specs.Prelude.{ℕ, ◌+◌, Option, Some, None, [], ◌∷◌}
use Rattle.page_state.specs.declared.entry.Entry.{Entry}
use Rattle.page_state.specs.declared.entry.PageRange.{PageRange}
use Rattle.call_table.specs.declared.reply.Value.TheVariants.{Nothing}
use Rattle.reference_model.specs.declared.changes.MapChange.{MapChange}
use Rattle.reference_model.specs.declared.changes.Update.{Update}
use Rattle.reference_model.specs.declared.changes.Update.TheVariants.{Keep, Becomes}
use Rattle.reference_model.specs.declared.changes.GuestChange.{GuestChange}
use Rattle.reference_model.specs.declared.changes.GuestChange.TheVariants.{Keep as KeepGuest, Install, Gain, LoseLowest, Die, Empty}
use Rattle.reference_model.specs.declared.changes.SlotChange.{SlotChange}
use Rattle.reference_model.specs.declared.changes.SlotChange.TheVariants.{Keep as KeepSlots, Reserve, Open, Close, Release, Load, Unload}
use Rattle.reference_model.specs.declared.changes.CpuChange.{CpuChange}
use Rattle.reference_model.specs.declared.changes.Changes.{Changes}
use Rattle.page_state.specs.Trees.{Pool, frames_from, root_tree}
use Rattle.reference_model.specs.model.State.{Guest, live, dying, Slot, reserved, opened, closing, Vms, Cpu, put_at, no_guest, no_slot}
use Rattle.page_state.specs.Tables.{Edit, keep, put, all_given}

-- the change of a map as an edit of its tree
abbrev pub edit_of : Option MapChange → Edit
edit_of None = keep
edit_of (Some c) = put c.range.first.0 c.range.count c.entry

-- a field after its update
abbrev pub updated : {X : Type 0} → Update X → X → X
updated Keep x = x
updated (Becomes y) x = y

-- the CPU's own state after a change
abbrev pub cpu_by : CpuChange → Cpu → Cpu
cpu_by c k =
    record {
      loaded = updated c.loaded k.loaded;
      hand = updated c.hand k.hand;
      ticket = updated c.ticket k.ticket;
    }

-- the frames of a range, in order
abbrev pub frames_in : PageRange → Pool
frames_in r = frames_from r.first.0 r.count

-- a pool without its lowest frame
abbrev pub rest : Pool → Pool
rest [] = []
rest (f ∷ fs) = fs

-- the guest after a change, in trees of the depth
abbrev pub guest_by : ℕ → GuestChange → Guest → Guest
guest_by depth KeepGuest g = g
guest_by depth (Install kind generation hand) g =
    record {
      phase = live;
      generation = generation;
      kind = kind;
      tree = root_tree depth hand.first.0;
      free = rest (frames_in hand);
    }
guest_by depth (Gain range) g = record g { free = all_given (frames_in range) g.free }
guest_by depth LoseLowest g = record g { free = rest g.free }
guest_by depth Die g = record g { phase = dying }
guest_by depth Empty g = no_guest

-- the VM part with a slot changed
abbrev pub with_slot : ℕ → (Slot → Slot) → Vms → Vms
with_slot v f x = record x { slot = put_at x.slot v (f (x.slot v)) }

-- the VM part after a change
abbrev pub vms_by : SlotChange → Vms → Vms
vms_by KeepSlots x = x
vms_by (Reserve v kind vcpus) x =
    with_slot v (λ y. record y { stand = reserved; kind = kind; vcpus = vcpus }) x
vms_by (Open v) x = with_slot v (λ y. record y { stand = opened }) x
vms_by (Close v) x = with_slot v (λ y. record y { stand = closing }) x
vms_by (Release vm) x = with_slot vm.slot (λ y. no_slot (vm.generation + 1)) x
vms_by (Load v i c) x = with_slot v (λ y. record y { loaded = put_at y.loaded i (Some c) }) x
vms_by (Unload v i) x = with_slot v (λ y. record y { loaded = put_at y.loaded i None }) x

-- a change of a map: `count` pages from the first on
abbrev pub change : ℕ → ℕ → Entry → Option MapChange
change first count entry =
    Some (record { range = record { first = record { 0 = first }; count = count }; entry = entry })

-- the CPU's own state stays
abbrev pub same_cpu : CpuChange
same_cpu = record { loaded = Keep; hand = Keep; ticket = Keep }

-- nothing changes, and Ok has no value
abbrev pub no_changes : Changes
no_changes =
    record {
      host = None;
      hyp = None;
      guest = None;
      part = KeepGuest;
      slot = KeepSlots;
      cpu = same_cpu;
      moved = None;
      value = Nothing;
    }

-- the frames whose rows a call finds again: those of the host's change, or else those that change
-- use
abbrev pub touched : Changes → Option PageRange
touched h = elim (h.host) [ Some c ↦ Some c.range | None ↦ h.moved ]
