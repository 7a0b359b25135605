use Rattle.ghost_trees.specs.Trees.{table_of}
use Rattle.ghost_judge.specs.inner.Covered.{AreCovered, CoversMore, IsUnlike}
use Rattle.ghost_judge.proofs.pools.least.Given as goal

abbrev pub invariant-loop-i : goal.invariant-loop-i
invariant-loop-i l =
    IsUnlike (table_of l.a) (table_of l.b) l.least
    × AreCovered (table_of l.a) (table_of l.b) l.least l.tables l.i
    × CoversMore l.fn.found l.least
