-- The reference state that all parts represent, and their history.
use Rattle.std.specs.Prelude.{List, [], Option, Some, None, slice_get}
use Rattle.call_table.specs.declared.reply.Call.{Call}
use Rattle.page_state.specs.LayoutView.{layout_of as layout_told}
use Rattle.page_state.specs.Layouts.{Layout}
use Rattle.reference_model.specs.model.Boot.{CanBoot}
use Rattle.reference_model.specs.model.Stored.{held_state}
use Rattle.reference_model.specs.model.History.{Kept, IsHistory}
use Rattle.reference_model.specs.model.State.{Reference, no_guest, no_cpu}
use Rattle.part_types.specs.View.{vm_slots, shared_of, guest_held, cpu_of}
use Rattle.hypercalls.specs.declared.parts.Parts.{Parts}

-- the item at a place of a list, or a default if there is none
abbrev pub at_place : {P X : Type 0} → X → (P → X) → Option P → X
at_place blank f None = blank
at_place blank f (Some p) = f p

module _ {A : Type 0} (p : Parts A) where
  -- the reference layout
  abbrev pub parts_layout : Layout
  parts_layout = layout_told p.layout

  -- the contents of the parts, and their logs
  abbrev pub kept_of : Kept
  kept_of = record {
    vms = (vm_slots p.vms, p.vms.log.calls);
    shared = (shared_of p.shared, p.shared.log.calls);
    guest =
        λ v. (
          at_place no_guest guest_held (slice_get p.guests.items v),
          at_place [] (λ g. g.log.calls) (slice_get p.guests.items v),
        );
    cpu =
        λ c. (
          at_place no_cpu cpu_of (slice_get p.cpus.items c),
          at_place [] (λ k. k.log.calls) (slice_get p.cpus.items c),
        );
  }

  -- the state of the parts: the room of a log is the part of its size that its calls leave
  abbrev pub state_of : Reference
  state_of = held_state parts_layout kept_of

  -- one legal history: the parts are at the end of a run of the reference step from the boot state,
  -- and its calls are those of their logs
  pub record HasHistory : Type 0 where
    pub ready : CanBoot parts_layout
    pub log : List Call
    pub history : IsHistory parts_layout kept_of log
