use Rattle.std.proofs.Common.{◌≡◌, drop}
use Rattle.page_state.specs.Runs.{map_of, IsCoarsest}
use Rattle.ghost_trees.specs.Small.{AreSmall}
use Rattle.host_views.specs.Seen.{own_in}
use Rattle.host_views.proofs.touched.own_runs.Given as goal

abbrev pub invariant-loop-i : goal.invariant-loop-i
invariant-loop-i l = record {
  map : map_of l.out.items ≡ own_in (drop l.i l.memory.regions);
  coarsest : IsCoarsest l.out.items;
  small : AreSmall l.out.items;
}
