use Rattle.std.proofs.Common.{◌≡◌, ℕ, ◌+◌, ◌<◌, drop}
use Rattle.page_state.specs.Runs.{map_of}
use Rattle.ghost_trees.proofs.blocks.has_no_entry.Given as goal

abbrev pub invariant-loop-run : goal.invariant-loop-run
invariant-loop-run l =
    (k : ℕ) → k < l.count → map_of (drop l.run-index l.runs) (l.first + k) ≡ map_of l.runs (l.first + k)
