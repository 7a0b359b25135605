use Rattle.std.proofs.Common.{◌≡◌, ◌^◌, ◌-◌, ◌≤◌, ◌<◌, ℕ, None}
use Rattle.run_list.specs.Runs.{run_map}
use Rattle.run_changes.specs.Changes.{advance_change, IsDifference}
use Rattle.run_changes.proofs.finding.changes.Given as goal

abbrev pub invariant-loop-low : goal.invariant-loop-low
invariant-loop-low g l = record {
  within : l.low ≤ 2 ^ 63;
  front : (p : ℕ)
      → p < l.low
      → IsDifference (run_map g.V.Advance.advance l.before.runs p) (run_map g.V.Advance.advance l.after.runs p)
      (run_map (advance_change g.V.Advance.advance) l.found.runs p);
  back : (p : ℕ) → l.low ≤ p → run_map (advance_change g.V.Advance.advance) l.found.runs p ≡ None;
}

abbrev pub decreases-loop-low : goal.decreases-loop-low
decreases-loop-low g l = 2 ^ 63 - l.low
