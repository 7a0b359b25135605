use Rattle.std.proofs.Common.{◌≡◌, drop}
use Rattle.page_state.specs.Runs.{map_of, IsCoarsest}
use Rattle.ghost_trees.specs.Small.{AreSmall}
use Rattle.host_views.specs.Seen.{kind_in}
use Rattle.host_views.proofs.devices.of_devices.Given as goal

abbrev pub invariant-loop-i : goal.invariant-loop-i
invariant-loop-i l = record {
  map : map_of l.out.items ≡ (λ p. kind_in (drop l.i l.memory.regions) p (map_of l.runs p));
  coarsest : IsCoarsest l.out.items;
  small : AreSmall l.out.items;
}
