use Rattle.std.proofs.Common.{ℕ, ◌+◌, ◌-◌, ◌<◌, ◌≤◌}
use Rattle.page_state.specs.Geometries.{block_pages}
use Rattle.ghost_trees.specs.Trees.{tree_in_lists}
use Rattle.ghost_coarse.specs.inner.Served.{HasWanted}
use Rattle.ghost_coarse.proofs.lacking.first_lacking.Given as goal

abbrev pub invariant-loop-d : goal.invariant-loop-d
invariant-loop-d l =
    (d i : ℕ) → 1 ≤ d → d < l.d → i < block_pages (l.depth + 1 - d) → HasWanted (tree_in_lists l.tree) (d, i)
