use Rattle.std.proofs.Common.{◌≡◌, ℕ, ◌+◌, ◌<◌, drop}
use Rattle.page_state.specs.Runs.{map_of}
use Rattle.page_state.specs.Blocks.{span, first_page}
use Rattle.ghost_trees.proofs.blocks.is_one_word.Given as goal

abbrev pub invariant-loop-run : goal.invariant-loop-run
invariant-loop-run l =
    (k : ℕ)
    → k < span l.block
    → map_of (drop l.run-index l.runs) (first_page l.block + k) ≡ map_of l.runs (first_page l.block + k)
