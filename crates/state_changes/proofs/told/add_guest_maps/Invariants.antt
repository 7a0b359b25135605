use Rattle.std.proofs.Common.{◌≤◌, get_or, map}
use Rattle.ghost_spec.specs.States.{guest_in}
use Rattle.reference_model.specs.model.State.{no_guest}
use Rattle.state_changes.specs.Changed.{guest_name, ReportsEntries}
use Rattle.state_changes.specs.Together.{Adds, Each}
use Rattle.state_changes.proofs.told.add_guest_maps.Given as goal

abbrev pub invariant-loop-slot : goal.invariant-loop-slot
invariant-loop-slot l = record {
  within : l.slot ≤ 64;
  told : Adds
      (Each l.slot
      (λ v. ReportsEntries (guest_name v) (get_or (map guest_in l.before.items) v no_guest).tree.map
      (get_or (map guest_in l.after.items) v no_guest).tree.map)) l.fn.text.items l.text.items;
}
