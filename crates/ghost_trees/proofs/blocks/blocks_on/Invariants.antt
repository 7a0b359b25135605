use Rattle.std.specs.Prelude.{min}
use Rattle.std.proofs.Common.{◌≡◌, ◌*◌, ◌-◌}
use Rattle.page_state.specs.Blocks.{blocks_on}
use Rattle.ghost_trees.proofs.blocks.blocks_on.Given as goal

abbrev pub invariant-loop-i : goal.invariant-loop-i
invariant-loop-i l = l.blocks.items ≡ blocks_on l.top l.first (min (l.i * 512 - l.first) l.fn.range.count)
