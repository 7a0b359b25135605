use Rattle.std.proofs.Common.{◌≡◌, ◌++◌, take}
use Rattle.ghost_legal.specs.Listed.{hands_held}
use Rattle.ghost_legal.proofs.held.add_hands.Given as goal

abbrev pub invariant-loop-i : goal.invariant-loop-i
invariant-loop-i l = l.held.items ≡ l.fn.held.items ++ hands_held 0 (take l.i l.cpus)
