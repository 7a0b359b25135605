use Rattle.std.proofs.Common.{◌≡◌, take}
use Rattle.std.specs.List.{filter}
use Rattle.image_dump.specs.Skips.{is_left}
use Rattle.image_dump.proofs.skip.left_runs.Given as goal

abbrev pub invariant-loop-i : goal.invariant-loop-i
invariant-loop-i l = l.left.items ≡ filter (is_left l.skips l.tree) (take l.i l.runs)
