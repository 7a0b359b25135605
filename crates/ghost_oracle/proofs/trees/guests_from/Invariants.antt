use Rattle.std.proofs.Common.{◌≡◌, ◌*◌, All, map, take}
use Rattle.std.specs.Prelude.{sum_by}
use Rattle.part_types.specs.View.{guest_held}
use Rattle.table_tree.specs.Reading.{count_of}
use Rattle.ghost_spec.specs.States.{guest_in, AreKeptGuests}
use Rattle.ghost_trees.specs.KeptTrees.{IsKeptTree}
use Rattle.ghost_oracle.specs.Counted.{guest_tables}
use Rattle.ghost_oracle.specs.Low.{IsLowGuest}
use Rattle.ghost_oracle.specs.inner.Eights.{HasLooked}
use Rattle.ghost_oracle.proofs.trees.guests_from.Given as goal

abbrev pub invariant-loop-part : goal.invariant-loop-part
invariant-loop-part g l = record {
  same : map guest_in l.guests.items ≡ map guest_held (take l.part-index l.parts);
  trees : All (λ x. IsKeptTree x.tree) l.guests.items;
  kept : All (λ p. IsLowGuest (guest_held p)) l.parts → AreKeptGuests l.guests.items;
  reads : HasLooked (count_of l.fn.reads) (512 * sum_by guest_tables (take l.part-index l.parts)) (count_of l.reads);
}
