use Rattle.ghost_trees.specs.InOrder.{AreIncreasing}
use Rattle.ghost_trees.proofs.apart.increase.Given as goal

abbrev pub invariant-loop-i : goal.invariant-loop-i
invariant-loop-i l = AreIncreasing l.items l.i
