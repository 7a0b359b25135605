use Rattle.std.proofs.Common.{◌≡◌, ◌+◌, ◌*◌, ◌^◌, ◌≤◌, ◌-◌, ◌/◌}
use Rattle.table_tree.specs.Reading.{count_of}
use Rattle.walk_plan.specs.inner.Needs.{met, sum_to, table_parts}
use Rattle.walk_plan.proofs.Looks.{done, ends}
use Rattle.walk_plan.proofs.needs.+need_of_table.Given as goal

abbrev pub decreases-need_of_table : goal.decreases-need_of_table
decreases-need_of_table g l = l.depth

abbrev pub invariant-loop-i : goal.invariant-loop-i
invariant-loop-i g l =
    record {
      counted : l.count
          ≡ sum_to (met l.depth l.change (table_parts l.depth l.table)) l.i;
      small : l.count ≤ l.i * 1024 ^ l.depth;
      reads : 2 * count_of l.reads +
          (l.i - l.change.first / 2 ^ (9 * l.depth)) ≤ 2 * count_of l.initial.reads + 3 * done l.depth l.change
          l.i + ends
          (2 * l.depth) l.depth l.change l.i;
    }
