use Rattle.std.proofs.Common.{◌≡◌, ◌++◌, take}
use Rattle.ghost_legal.specs.Listed.{tables_held}
use Rattle.ghost_legal.proofs.held.add_tables.Given as goal

abbrev pub invariant-loop-i : goal.invariant-loop-i
invariant-loop-i l = l.held.items ≡ l.fn.held.items ++ tables_held l.tree (take l.i l.tables)
