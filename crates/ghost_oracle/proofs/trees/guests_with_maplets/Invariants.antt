use Rattle.std.proofs.Common.{◌≡◌, map, take}
use Rattle.guest_component.specs.View.{runs_of}
use Rattle.part_types.specs.View.{guest_held}
use Rattle.ghost_spec.specs.States.{guest_in, AreKeptGuests}
use Rattle.ghost_oracle.proofs.trees.guests_with_maplets.Given as goal

abbrev pub invariant-loop-v : goal.invariant-loop-v
invariant-loop-v g l = record {
  same : map guest_in l.guests.items ≡ map guest_held (take l.v l.parts);
  kept : AreKeptGuests l.guests.items;
  runs : map (λ x. x.tree.runs.items) l.guests.items ≡ map (λ x. runs_of x.guest.body) (take l.v l.parts);
}
