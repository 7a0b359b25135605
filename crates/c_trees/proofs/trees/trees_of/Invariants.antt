use Rattle.ghost_spec.specs.States.{contents_in}
use Rattle.c_trees.specs.Entries.{kept_map}
use Rattle.c_trees.proofs.Roots.{AreFound}
use Rattle.c_trees.proofs.trees.trees_of.Given as goal

abbrev pub invariant-loop-tree : goal.invariant-loop-tree
invariant-loop-tree l =
    AreFound l.geometry l.pages l.roots (kept_map (contents_in l.kept)) l.tree l.met.items l.trees.items
