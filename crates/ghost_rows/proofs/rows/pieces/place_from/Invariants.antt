use Rattle.std.proofs.Common.{◌+◌, ◌-◌, ◌≤◌, take, length}
use Rattle.run_list.specs.Runs.{EndBefore}
use Rattle.ghost_rows.proofs.rows.pieces.place_from.Given as goal

abbrev pub invariant-loop-place : goal.invariant-loop-place
invariant-loop-place l = record {
  within : l.place ≤ length l.runs;
  front : EndBefore (l.frame + 1) (take l.place l.runs);
}

abbrev pub decreases-loop-place : goal.decreases-loop-place
decreases-loop-place l = length l.runs - l.place
