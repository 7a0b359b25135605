use Rattle.std.proofs.Common.{◌≡◌, ◌+◌, ◌≤◌, drop, length}
use Rattle.trace_race.proofs.OwnSteps.{Ordering}
use Rattle.trace_race.proofs.ordering.lines_of.Given as goal

abbrev pub invariant-loop-i : goal.invariant-loop-i
invariant-loop-i l = record {
  count : length l.cursors.items ≡ l.count;
  order : Ordering l.steps l.replies l.cpus (drop l.i l.cpus) l.cursors.items l.lines.items;
}
