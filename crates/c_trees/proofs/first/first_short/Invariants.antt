use Rattle.std.proofs.Common.{All, take}
use Rattle.walked_tables.specs.ByFrames.{IsWhole}
use Rattle.c_trees.proofs.first.first_short.Given as goal

abbrev pub invariant-loop-i : goal.invariant-loop-i
invariant-loop-i l = All IsWhole (take l.i l.pages)
