use Rattle.std.proofs.Common.{◌≡◌, take}
use Rattle.free_judge.specs.PoolByRows.{without_it}
use Rattle.free_judge.proofs.asked.without_it.Given as goal

abbrev pub invariant-loop-frame : goal.invariant-loop-frame
invariant-loop-frame l = l.out.items ≡ without_it l.it (take l.frame-index l.frames)
