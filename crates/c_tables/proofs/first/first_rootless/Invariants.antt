use Rattle.std.proofs.Common.{All, take}
use Rattle.c_tables.specs.Given.{HasPage}
use Rattle.c_tables.proofs.first.first_rootless.Given as goal

abbrev pub invariant-loop-i : goal.invariant-loop-i
invariant-loop-i l = All (HasPage l.pages) (take l.i l.roots)
