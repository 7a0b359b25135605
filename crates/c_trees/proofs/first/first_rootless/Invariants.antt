use Rattle.std.proofs.Common.{All, take}
use Rattle.c_trees.specs.Roots.{HasPages}
use Rattle.c_trees.proofs.first.first_rootless.Given as goal

abbrev pub invariant-loop-i : goal.invariant-loop-i
invariant-loop-i l = All (HasPages l.pages) (take l.i l.roots)
