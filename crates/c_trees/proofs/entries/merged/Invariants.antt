use Rattle.std.proofs.Common.{◌≡◌, ◌^◌, ◌-◌, ◌≤◌, ◌<◌, ℕ}
use Rattle.page_state.specs.declared.entry.Entry.TheVariants.{Unmapped}
use Rattle.page_state.specs.Runs.{map_of}
use Rattle.run_list.specs.Runs.{run_map}
use Rattle.maplets.specs.View.{target_runs}
use Rattle.walked_tables.specs.Values.{advance_said}
use Rattle.c_trees.specs.Entries.{entries_by}
use Rattle.c_trees.proofs.entries.merged.Given as goal

abbrev pub invariant-loop-low : goal.invariant-loop-low
invariant-loop-low l = record {
  within : l.low ≤ 2 ^ 63;
  front : (p : ℕ)
      → p < l.low
      → map_of (target_runs l.found.runs) p
      ≡ entries_by l.profile (map_of (target_runs l.kept.runs)) (run_map advance_said l.said.runs) p;
  back : (p : ℕ) → l.low ≤ p → map_of (target_runs l.found.runs) p ≡ Unmapped;
}

abbrev pub decreases-loop-low : goal.decreases-loop-low
decreases-loop-low l = 2 ^ 63 - l.low
