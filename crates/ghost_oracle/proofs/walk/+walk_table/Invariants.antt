use Rattle.std.proofs.Common.{◌+◌, ◌-◌, ◌*◌, ◌≤◌}
use Rattle.table_tree.specs.Reading.{count_of}
use Rattle.ghost_oracle.proofs.Walks.{IsWalked}
use Rattle.ghost_oracle.proofs.walk.+walk_table.Given as goal

abbrev pub decreases-walk_table : goal.decreases-walk_table
decreases-walk_table g l = l.depth

abbrev pub invariant-loop-k : goal.invariant-loop-k
invariant-loop-k g l =
    IsWalked l.depth l.number l.table l.fn.found.runs.items l.fn.found.tables.items (count_of l.fn.reads)
    (8 * l.c + l.k) (8 * l.c + 8) l.pending l.found.runs.items l.found.tables.items (count_of l.reads)

abbrev pub invariant-loop-c : goal.invariant-loop-c
invariant-loop-c g l = record {
  at : IsWalked l.depth l.number l.table l.fn.found.runs.items l.fn.found.tables.items (count_of l.fn.reads)
      (8 * l.from) (8 * l.from) l.pending l.found.runs.items l.found.tables.items (count_of l.reads);
  within : l.from ≤ 64;
}

abbrev pub decreases-loop-c : goal.decreases-loop-c
decreases-loop-c g l = 64 - l.from
