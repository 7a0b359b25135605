use Rattle.std.proofs.Common.{take}
use Rattle.ghost_coarse.specs.Misfits.{AreInside}
use Rattle.ghost_coarse.proofs.tables.first_outside.Given as goal

abbrev pub invariant-loop-i : goal.invariant-loop-i
invariant-loop-i l = AreInside l.depth (take l.i l.tables)
