use Rattle.std.proofs.Common.{take}
use Rattle.std.specs.Prelude.{All}
use Rattle.ghost_legal.specs.Pages.{IsWhole}
use Rattle.ghost_legal.proofs.guests.first_guest.Given as goal

abbrev pub invariant-loop-slot : goal.invariant-loop-slot
invariant-loop-slot l = All (IsWhole l.depth) (take l.slot l.guests)
