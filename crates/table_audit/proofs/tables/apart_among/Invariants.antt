use Rattle.std.proofs.Common.{All, take}
use Rattle.ghost_judge.specs.inner.Same.{HasSameFrame}
use Rattle.table_audit.proofs.tables.apart_among.Given as goal

abbrev pub invariant-loop-i : goal.invariant-loop-i
invariant-loop-i l = All (HasSameFrame l.a l.b) (take l.i l.tables)
