use Rattle.std.proofs.Common.{ℕ, ◌+◌, ◌*◌, ◌<◌, ◌≤◌}
use Rattle.page_state.specs.Entries.{advance}
use Rattle.page_state.specs.Geometries.{block_pages}
use Rattle.table_tree.specs.Meaning.{slot_at}
use Rattle.table_tree.specs.Reading.{count_of}
use Rattle.table_tree.specs.Tight.{HasEntry}
use Rattle.walker.proofs.open.goes_on.Given as goal

abbrev pub invariant-loop-i : goal.invariant-loop-i
invariant-loop-i g l = record {
  on : (k : ℕ) → 1 ≤ k → k < l.i → HasEntry l.depth (advance l.first (k * block_pages l.depth)) (slot_at l.table k);
  reads : count_of l.reads + 1 ≤ count_of l.initial.reads + l.i;
}
