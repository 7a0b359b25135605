use Rattle.std.proofs.Common.{All, take}
use Rattle.ghost_legal.specs.Pages.{IsGoodRun}
use Rattle.ghost_legal.proofs.guests.first_run.Given as goal

abbrev pub invariant-loop-i : goal.invariant-loop-i
invariant-loop-i l = All (IsGoodRun l.pages) (take l.i l.runs)
