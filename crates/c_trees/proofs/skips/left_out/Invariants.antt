use Rattle.std.proofs.Common.{◌≡◌, drop}
use Rattle.page_state.specs.Runs.{map_of, IsCoarsest}
use Rattle.ghost_trees.specs.Small.{AreSmall}
use Rattle.c_trees.specs.Entries.{without}
use Rattle.c_trees.proofs.skips.left_out.Given as goal

abbrev pub invariant-loop-i : goal.invariant-loop-i
invariant-loop-i l = record {
  map : map_of l.out.items ≡ without (drop l.i l.ranges) (map_of l.fn.runs.items);
  coarsest : IsCoarsest l.out.items;
  small : AreSmall l.out.items;
}
