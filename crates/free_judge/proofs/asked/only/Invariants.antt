use Rattle.std.proofs.Common.{◌≡◌, take}
use Rattle.free_judge.specs.PoolByRows.{only}
use Rattle.free_judge.proofs.asked.only.Given as goal

abbrev pub invariant-loop-frame : goal.invariant-loop-frame
invariant-loop-frame l = l.out.items ≡ only l.it (take l.frame-index l.frames)
