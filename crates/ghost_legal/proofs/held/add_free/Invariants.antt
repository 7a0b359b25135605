use Rattle.std.proofs.Common.{◌≡◌, ◌++◌, take}
use Rattle.ghost_legal.specs.Listed.{free_held}
use Rattle.ghost_legal.proofs.held.add_free.Given as goal

abbrev pub invariant-loop-i : goal.invariant-loop-i
invariant-loop-i l = l.held.items ≡ l.fn.held.items ++ free_held l.holder (take l.i l.free)
