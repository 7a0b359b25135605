use Rattle.c_tables.proofs.Roots.{AreFound}
use Rattle.c_tables.proofs.trees.trees_of.Given as goal

abbrev pub invariant-loop-tree : goal.invariant-loop-tree
invariant-loop-tree l = AreFound l.geometry l.pages l.roots l.tree l.met.items l.trees.items
