use Rattle.std.proofs.Common.{◌≡◌, ◌+◌, ◌≤◌, ℕ, length}
use Rattle.std.specs.Prelude.{slice_index}
use Rattle.trace_race.proofs.OwnSteps.{Counts}
use Rattle.trace_race.proofs.ordering.stored_counts.Given as goal

abbrev pub invariant-loop-i : goal.invariant-loop-i
invariant-loop-i l = record {
  count : length l.counts.items ≡ l.count;
  few : (cpu : ℕ) → slice_index l.counts.items cpu ≤ l.i;
  each : Counts l.steps l.replies l.i l.counts.items;
}
