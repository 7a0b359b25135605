use Rattle.std.proofs.Common.{◌≡◌, ◌+◌, ◌≤◌, ◌*◌, ◌^◌, ◌-◌, sum_by, take}
use Rattle.table_tree.specs.Meaning.{slots_of}
use Rattle.table_tree.specs.Slots.{slot_tables}
use Rattle.table_tree.proofs.look.+count_in.Given as goal

abbrev pub decreases-count_in : goal.decreases-count_in
decreases-count_in g l = l.depth

abbrev pub invariant-loop-i : goal.invariant-loop-i
invariant-loop-i g l =
    record {
      counted : l.count
          ≡ 1 + sum_by (slot_tables l.depth) (take l.i (slots_of l.table));
      small : l.count ≤ 1 + l.i * 1024 ^ (l.depth - 1);
    }
