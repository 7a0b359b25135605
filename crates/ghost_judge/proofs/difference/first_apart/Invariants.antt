use Rattle.std.proofs.Common.{map, drop}
use Rattle.ghost_judge.proofs.Apart.{IsLeft}
use Rattle.ghost_judge.proofs.difference.first_apart.Given as goal

abbrev pub invariant-loop-i : goal.invariant-loop-i
invariant-loop-i g l =
    IsLeft g.V.Advance.advance g.V.Advance.CanAdvance (map g.T.Told.told l.fn.a) (map g.T.Told.told l.fn.b)
    (map g.T.Told.told (drop l.i l.fn.a)) (map g.T.Told.told (drop l.i l.fn.b))
