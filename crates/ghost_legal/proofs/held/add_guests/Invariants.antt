use Rattle.std.proofs.Common.{◌≡◌, ◌++◌, take}
use Rattle.ghost_legal.specs.Listed.{guests_held}
use Rattle.ghost_legal.proofs.held.add_guests.Given as goal

abbrev pub invariant-loop-v : goal.invariant-loop-v
invariant-loop-v l = l.held.items ≡ l.fn.held.items ++ guests_held 0 (take l.v l.guests)
