use Rattle.std.proofs.Common.{◌≡◌, ℕ, ◌+◌, ◌-◌, ◌*◌, ◌/◌, ◌≤◌, ◌<◌, drop, take, length}
use Rattle.page_state.specs.Geometries.{block_pages}
use Rattle.page_state.specs.Counts.{frame_count}
use Rattle.table_tree.specs.Meaning.{index_at, slot_at, frame_of, entry_at}
use Rattle.table_tree.specs.Reading.{count_of}
use Rattle.table_tree.specs.Shape.{IsShaped}
use Rattle.table_tree.specs.Stocks.{frames_of}
use Rattle.table_tree.specs.Tables.{tables_in, uses_in, table_in}
use Rattle.table_tree.specs.Tight.{IsTight}
use Rattle.walk_plan.specs.Changes.{changed_entry}
use Rattle.walk_plan.specs.inner.Needs.{met, sum_to, table_parts}
use Rattle.walk_plan.specs.inner.Ranks.{gone_parts}
use Rattle.walk_plan.proofs.Looks.{done, ends}
use Rattle.walker.specs.inner.Walks.{upto}
use Rattle.walker.proofs.Walked.{IsKept}
use Rattle.walker.proofs.walk.+walk.Given as goal

abbrev pub decreases-set_slot : goal.decreases-set_slot
decreases-set_slot g l = 2 * l.depth

abbrev pub decreases-set_all : goal.decreases-set_all
decreases-set_all g l = 2 * l.depth + 1

abbrev pub invariant-set_all-loop-i : goal.invariant-set_all-loop-i
invariant-set_all-loop-i g l = record {
  frame : frame_of l.table ≡ frame_of l.initial.table;
  shape : IsShaped l.depth l.table;
  tight : IsTight l.depth l.table;
  map : (q : ℕ)
      → entry_at l.depth l.table q
      ≡ changed_entry (l.depth + 1) (entry_at l.depth l.initial.table)
      (upto l.change (l.i * block_pages l.depth)) q;
  rest : (k : ℕ) → l.i ≤ k → slot_at l.table k ≡ slot_at l.initial.table k;
  stand : (low q : ℕ)
      → low < l.depth
      → l.i ≤ index_at l.depth q
      → table_in l.depth l.table low q ≡ table_in l.depth l.initial.table low q;
  kept : IsKept l.depth l.i l.change (frames_of l.initial.walk.spare) l.initial.table l.table;
  spare : frames_of l.walk.spare
      ≡ drop (sum_to (met l.depth l.change (table_parts l.depth l.initial.table)) l.i) (frames_of l.initial.walk.spare);
  uses : (f : ℕ)
      → uses_in l.depth l.table f + sum_to (met l.depth l.change (gone_parts l.depth l.initial.table f)) l.i
      ≡ uses_in l.depth l.initial.table f + frame_count f
      (take (sum_to (met l.depth l.change (table_parts l.depth l.initial.table)) l.i)
      (frames_of l.initial.walk.spare));
  freed : (f : ℕ)
      → frame_count f (frames_of l.walk.freed)
      ≡ sum_to (met l.depth l.change (gone_parts l.depth l.initial.table f)) l.i + frame_count f
      (frames_of l.initial.walk.freed);
  tables : tables_in l.depth l.table + length (frames_of l.walk.freed)
      ≡ tables_in l.depth l.initial.table + sum_to
      (met l.depth l.change (table_parts l.depth l.initial.table)) l.i + length (frames_of l.initial.walk.freed);
  reads : 2 * count_of l.walk.reads + 3 *
      (l.i - l.change.first / block_pages l.depth) ≤ 2 * count_of l.initial.walk.reads + 5 * done l.depth l.change l.i
      + ends
      (1028 * l.depth) l.depth l.change l.i;
}
