use Rattle.std.proofs.Common.{◌≡◌, map, take}
use Rattle.c_trees.specs.Trees.{as_table}
use Rattle.c_trees.proofs.tree.tables_in.Given as goal

abbrev pub invariant-loop-i : goal.invariant-loop-i
invariant-loop-i l = l.tables.items ≡ map as_table (take l.i l.met)
