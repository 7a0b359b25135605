use Rattle.std.proofs.Common.{All, take}
use Rattle.ghost_legal.specs.Frames.{IsSmallHeld}
use Rattle.ghost_legal.proofs.held.first_far.Given as goal

abbrev pub invariant-loop-i : goal.invariant-loop-i
invariant-loop-i l = All IsSmallHeld (take l.i l.held)
