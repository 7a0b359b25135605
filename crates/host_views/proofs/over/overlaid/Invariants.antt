use Rattle.std.proofs.Common.{◌≡◌, drop}
use Rattle.page_state.specs.Runs.{map_of, IsCoarsest}
use Rattle.ghost_trees.specs.Small.{AreSmall}
use Rattle.host_views.specs.Seen.{over}
use Rattle.host_views.proofs.over.overlaid.Given as goal

abbrev pub invariant-loop-i : goal.invariant-loop-i
invariant-loop-i l = record {
  map : map_of l.out.items ≡ over (map_of (drop l.i l.runs)) (map_of l.fn.under.items);
  coarsest : IsCoarsest l.out.items;
  small : AreSmall l.out.items;
}
