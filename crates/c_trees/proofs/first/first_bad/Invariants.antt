use Rattle.std.proofs.Common.{All, take}
use Rattle.c_trees.specs.Roots.{IsGoodRoot}
use Rattle.c_trees.proofs.first.first_bad.Given as goal

abbrev pub invariant-loop-i : goal.invariant-loop-i
invariant-loop-i l = All IsGoodRoot (take l.i l.roots)
