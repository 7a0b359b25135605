use Rattle.std.proofs.Common.{◌≡◌, ◌-◌, ◌++◌}
use Rattle.ghost_trees.proofs.BlockLists.{met}
use Rattle.ghost_trees.proofs.blocks.push_blocks.Given as goal

abbrev pub invariant-loop-i : goal.invariant-loop-i
invariant-loop-i l = l.blocks.items ++ met l.all (l.top - l.i) l.page ≡ l.fn.blocks.items ++ met l.all l.top l.page
