use Rattle.std.proofs.Common.{◌≡◌, ℕ, ◌+◌, ◌%◌, ◌<◌, ◌≤◌, None}
use Rattle.page_state.specs.Entries.{advance}
use Rattle.page_state.specs.Geometries.{block_pages}
use Rattle.page_state.specs.Counts.{is_one}
use Rattle.table_tree.specs.declared.table.Slot.TheVariants.{Word}
use Rattle.table_tree.specs.Meaning.{index_at, slot_at, frame_of, entry_at}
use Rattle.table_tree.specs.Shape.{IsWide, IsShaped}
use Rattle.table_tree.specs.Tables.{tables_in, uses_in, table_in}
use Rattle.table_tree.specs.Tight.{IsTight}
use Rattle.walker.specs.inner.Steps.{IsPart}
use Rattle.walker.proofs.open.fill.Given as goal

abbrev pub invariant-loop-i : goal.invariant-loop-i
invariant-loop-i g l = record {
  frame : frame_of l.table ≡ frame_of l.initial.table;
  wide : IsWide l.table;
  shape : IsShaped l.depth l.table;
  tight : IsTight l.depth l.table;
  uses : (f : ℕ) → uses_in l.depth l.table f ≡ is_one (frame_of l.table) f;
  tables : tables_in l.depth l.table ≡ 1;
  standing : (low q : ℕ) → low < l.depth → table_in l.depth l.table low q ≡ None;
  map : (q : ℕ)
      → index_at l.depth q < l.i
      → entry_at l.depth l.table q ≡ advance l.fn.entry (q % block_pages (l.depth + 1));
  parts : (k : ℕ) → k < l.i → IsPart l.depth l.fn.entry k (slot_at l.table k);
  rest : (k : ℕ) → l.i ≤ k → k < 512 → slot_at l.table k ≡ Word 0;
}
