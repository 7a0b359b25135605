use Rattle.std.proofs.Common.{◌≤◌, get_or, map}
use Rattle.ghost_spec.specs.States.{slot_in}
use Rattle.reference_model.specs.model.State.{no_slot}
use Rattle.state_changes.specs.Changed.{ReportsSlot}
use Rattle.state_changes.specs.Together.{Adds, Each}
use Rattle.state_changes.proofs.told.add_slots.Given as goal

abbrev pub invariant-loop-slot : goal.invariant-loop-slot
invariant-loop-slot l = record {
  within : l.slot ≤ 64;
  told : Adds
      (Each l.slot
      (λ v. ReportsSlot (get_or (map slot_in l.before.items) v (no_slot 1))
      (get_or (map slot_in l.after.items) v (no_slot 1)) v)) l.fn.text.items l.text.items;
}
