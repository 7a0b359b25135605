use Rattle.std.proofs.Common.{◌≡◌, ◌+◌, ◌++◌, length, reverse}
use Rattle.table_tree.specs.Stocks.{frames_of}
use Rattle.table_tree.specs.View.{spares_of}
use Rattle.walk_plan.proofs.spare.in_frames.Given as goal

abbrev pub invariant-loop-taken : goal.invariant-loop-taken
invariant-loop-taken g l = record {
  frames : reverse (frames_of l.stock) ++ l.pool.frames ≡ l.initial.pool.frames;
  count : length (frames_of l.stock) ≡ l._taken;
  spares : spares_of l.tree + l._taken ≡ spares_of l.initial.tree;
  geometry : l.tree.geometry ≡ l.initial.tree.geometry;
  table : l.tree.table ≡ l.initial.tree.table;
  room : l.pool.room ≡ l.initial.pool.room;
}
