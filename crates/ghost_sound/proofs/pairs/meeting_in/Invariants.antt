use Rattle.std.proofs.Common.{All, take}
use Rattle.ghost_sound.specs.inner.Pairs.{AreOne}
use Rattle.ghost_sound.proofs.pairs.meeting_in.Given as goal

abbrev pub invariant-loop-i : goal.invariant-loop-i
invariant-loop-i l = All (AreOne l.side l.tree l.run l.other_tree) (take l.i l.runs)
