use Rattle.std.proofs.Common.{All, take}
use Rattle.ghost_sound.specs.inner.Share.{HasNot}
use Rattle.ghost_sound.proofs.share.end_in.Given as goal

abbrev pub invariant-loop-i : goal.invariant-loop-i
invariant-loop-i l = All (HasNot l.frame) (take l.i l.runs)
