use Rattle.std.proofs.Common.{◌≡◌, ℕ, ◌<◌, length, map, get_or}
use Rattle.reference_model.specs.model.State.{no_slot}
use Rattle.vm_table.specs.View.{vms_of}
use Rattle.ghost_spec.specs.States.{slot_in}
use Rattle.ghost_oracle.proofs.parts.slots_from.Given as goal

abbrev pub invariant-loop-slot : goal.invariant-loop-slot
invariant-loop-slot l = record {
  count : length l.slots.items ≡ l.slot;
  told : (v : ℕ) → v < l.slot → get_or (map slot_in l.slots.items) v (no_slot 1) ≡ (vms_of l.table).slot v;
}
