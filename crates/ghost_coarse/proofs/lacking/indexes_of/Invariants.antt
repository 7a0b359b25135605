use Rattle.std.proofs.Common.{◌≡◌, take}
use Rattle.ghost_coarse.specs.inner.Served.{indexes_in}
use Rattle.ghost_coarse.proofs.lacking.indexes_of.Given as goal

abbrev pub invariant-loop-i : goal.invariant-loop-i
invariant-loop-i l = l.indexes.items ≡ indexes_in l.depth (take l.i l.tables)
