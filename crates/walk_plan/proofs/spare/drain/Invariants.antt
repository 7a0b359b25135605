use Rattle.std.proofs.Common.{◌≡◌, ℕ, ◌+◌, ◌≤◌, length}
use Rattle.page_state.specs.Tables.{all_given}
use Rattle.page_state.specs.Counts.{frame_count}
use Rattle.table_tree.specs.Stocks.{frames_of}
use Rattle.table_tree.specs.View.{spares_of}
use Rattle.walk_plan.proofs.spare.drain.Given as goal

abbrev pub invariant-loop-table : goal.invariant-loop-table
invariant-loop-table g l = record {
  frames : all_given (frames_of l.stock) l.pool.frames ≡ all_given (frames_of l.initial.stock) l.initial.pool.frames;
  room : l.pool.room ≡ l.initial.pool.room;
  spares : spares_of l.tree + length (frames_of l.stock)
      ≡ spares_of l.initial.tree + length (frames_of l.initial.stock);
  geometry : l.tree.geometry ≡ l.initial.tree.geometry;
  table : l.tree.table ≡ l.initial.tree.table;
  distinct : (f : ℕ) → frame_count f (frames_of l.stock) + frame_count f l.pool.frames ≤ 1;
  covered : length (frames_of l.stock) + length l.pool.frames ≤ l.pool.room;
}

abbrev pub decreases-loop-table : goal.decreases-loop-table
decreases-loop-table g l = length (frames_of l.stock)
