use Rattle.std.proofs.Common.{All, take}
use Rattle.ghost_sound.specs.inner.Pairs.{MeetsNone}
use Rattle.ghost_sound.proofs.pairs.twice_in.Given as goal

abbrev pub invariant-loop-i : goal.invariant-loop-i
invariant-loop-i l = All (MeetsNone l.side l.state l.tree) (take l.i l.runs)
