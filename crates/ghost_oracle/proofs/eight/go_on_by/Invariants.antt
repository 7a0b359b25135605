use Rattle.std.proofs.Common.{◌≡◌, ℕ, ◌+◌, ◌-◌, ◌*◌, ◌<◌, IsTrue}
use Rattle.table_tree.specs.declared.table.Slot.TheVariants.{Word}
use Rattle.table_tree.specs.Meaning.{slot_at}
use Rattle.table_tree.specs.Reading.{count_of}
use Rattle.ghost_oracle.specs.inner.Eights.{HasLooked}
use Rattle.ghost_oracle.proofs.eight.go_on_by.Given as goal

abbrev pub invariant-loop-c : goal.invariant-loop-c
invariant-loop-c g l = record {
  pending : l.pending ≡ l.fn.pending;
  words : (k : ℕ) → 8 * l.from + k < 8 * l.c → slot_at l.table (8 * l.from + k) ≡ Word (l.fn.pending.next + k * l.step);
  on : 8 * l.from < 8 * l.c → IsTrue l.goes_on;
  next : l.next ≡ l.fn.pending.next + (8 * l.c - 8 * l.from) * l.step;
  reads : HasLooked (count_of l.fn.reads) (8 * l.c - 8 * l.from) (count_of l.looked);
}
