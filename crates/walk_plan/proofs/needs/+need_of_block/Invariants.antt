use Rattle.std.proofs.Common.{◌≡◌, ◌+◌, ◌*◌, ◌^◌, ◌≤◌}
use Rattle.walk_plan.specs.inner.Needs.{met, sum_to, block_parts}
use Rattle.walk_plan.proofs.needs.+need_of_block.Given as goal

abbrev pub decreases-need_of_block : goal.decreases-need_of_block
decreases-need_of_block l = l.depth

abbrev pub invariant-loop-i : goal.invariant-loop-i
invariant-loop-i l =
    record {
      counted : l.count
          ≡ 1 + sum_to (met l.below l.change (block_parts l.below l.old)) l.i;
      small : l.count ≤ 1 + l.i * 1024 ^ l.below;
    }
