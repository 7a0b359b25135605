use Rattle.std.proofs.Common.{◌≡◌, ℕ, ◌<◌, ◌≤◌}
use Rattle.table_tree.specs.declared.table.Slot.TheVariants.{Word}
use Rattle.table_tree.specs.Meaning.{slot_at, frame_of}
use Rattle.table_tree.specs.Shape.{IsWide}
use Rattle.walker.proofs.open.wipe.Given as goal

abbrev pub invariant-loop-i : goal.invariant-loop-i
invariant-loop-i g l = record {
  frame : frame_of l.table ≡ frame_of l.initial.table;
  wide : IsWide l.table;
  zeros : (k : ℕ) → k < l.i → slot_at l.table k ≡ Word 0;
  rest : (k : ℕ) → l.i ≤ k → slot_at l.table k ≡ slot_at l.initial.table k;
}
