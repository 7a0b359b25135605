use Rattle.std.proofs.Common.{◌-◌, ◌≤◌, take, length}
use Rattle.run_list.specs.Parts.{BeginBy}
use Rattle.run_list.proofs.places.begun_from.Given as goal

abbrev pub invariant-loop-place : goal.invariant-loop-place
invariant-loop-place g l = record {
  within : l.place ≤ length l.runs;
  front : BeginBy l.page (take l.place l.runs);
}

abbrev pub decreases-loop-place : goal.decreases-loop-place
decreases-loop-place g l = length l.runs - l.place
