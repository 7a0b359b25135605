use Rattle.std.proofs.Common.{◌≡◌, drop}
use Rattle.run_list.specs.Runs.{run_map}
use Rattle.walked_tables.specs.Values.{advance_said}
use Rattle.image_trees.proofs.records.frame_at.Given as goal

abbrev pub invariant-loop-i : goal.invariant-loop-i
invariant-loop-i l = run_map advance_said (drop l.i l.runs) l.page ≡ run_map advance_said l.runs l.page
