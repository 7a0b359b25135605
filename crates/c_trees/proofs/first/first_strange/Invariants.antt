use Rattle.std.proofs.Common.{All, take}
use Rattle.c_trees.specs.Given.{IsKnown}
use Rattle.c_trees.proofs.first.first_strange.Given as goal

abbrev pub invariant-loop-i : goal.invariant-loop-i
invariant-loop-i l = All IsKnown (take l.i l.roots)
