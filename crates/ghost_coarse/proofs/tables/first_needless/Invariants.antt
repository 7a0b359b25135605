use Rattle.std.proofs.Common.{take}
use Rattle.page_state.specs.Runs.{map_of}
use Rattle.ghost_coarse.specs.inner.Served.{AreNeeded}
use Rattle.ghost_coarse.proofs.tables.first_needless.Given as goal

abbrev pub invariant-loop-i : goal.invariant-loop-i
invariant-loop-i l = AreNeeded l.depth (map_of l.runs) (take l.i l.tables)
