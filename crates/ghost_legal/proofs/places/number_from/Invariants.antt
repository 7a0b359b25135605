use Rattle.std.proofs.Common.{◌-◌, length}
use Rattle.ghost_legal.specs.Ranges.{IsNear}
use Rattle.ghost_legal.proofs.places.number_from.Given as goal

abbrev pub invariant-loop-number : goal.invariant-loop-number
invariant-loop-number g l = IsNear g.T.Ranged.span l.page l.number l.items

abbrev pub decreases-loop-number : goal.decreases-loop-number
decreases-loop-number g l = length l.items - l.number
