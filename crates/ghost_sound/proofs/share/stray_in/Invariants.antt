use Rattle.std.proofs.Common.{All, take}
use Rattle.ghost_sound.specs.inner.Share.{AllShared}
use Rattle.ghost_sound.proofs.share.stray_in.Given as goal

abbrev pub invariant-loop-i : goal.invariant-loop-i
invariant-loop-i l = All (AllShared l.state) (take l.i l.runs)
