use Rattle.std.proofs.Common.{take}
use Rattle.std.specs.Prelude.{All}
use Rattle.page_state.specs.Runs.{map_of}
use Rattle.ghost_coarse.specs.inner.Served.{AreServedOn}
use Rattle.ghost_coarse.proofs.lacking.lacking_of.Given as goal

abbrev pub invariant-loop-i : goal.invariant-loop-i
invariant-loop-i l = All (AreServedOn (map_of l.runs) l.indexes l.depth l.count) (take l.i l.runs)
