use Rattle.std.proofs.Common.{◌≤◌, ◌-◌, ◌∙◌, sym, arith}
use Rattle.table_tree.specs.Raw.{IsRaw}
use Rattle.table_tree.proofs.RawTables.{raw_wide, raw_slot, raw_child_is}
use Rattle.table_tree.proofs.Steps.{look_word, look_child}
use Rattle.table_tree.proofs.look.look_in.Goals as goal

pub read-requires-clause-wide : goal.read-requires-clause-wide
read-requires-clause-wide g c = raw_wide c.loop-word.depth c.loop-word.table.now c.loop-word.invariant.raw

below : (g : _) (c : goal.After-deref-table g)
    → (1 ≤ c.loop-word.depth) × IsRaw (c.loop-word.depth - 1) c.in-Child.child.value
below g c =
    raw_child_is c.loop-word.depth c.in-Child.child c.read.result.now
    (rw (sym c.read.ensures) at
    (raw_slot c.loop-word.depth c.loop-word.table.now c.index_of.result c.loop-word.invariant.raw
    c.index_of.ensures.within)) c.in-Child.is

pub overflow_sub-depth : goal.overflow_sub-depth
overflow_sub-depth g c = (below g c).0

pub loop-word-preserved : goal.loop-word-preserved
loop-word-preserved g c =
    let h = below g c in
    let le : 1 ≤ c.loop-word.depth = h.0 in
    record {
      depth_in = omega (arith, c.loop-word.invariant.depth_in);
      raw = rw c.deref-table.ensures h.1;
      same =
          rw c.deref-table.ensures
          (look_child c.loop-word.depth c.args.page c.index_of.result c.loop-word.table.now c.in-Child.child
          c.read.result.now le c.index_of.ensures.value c.read.ensures c.in-Child.is)
          ∙ c.loop-word.invariant.same;
    }

pub returns-in-Word : goal.returns-in-Word
returns-in-Word g c =
    c.entry_in.ensures
    ∙ look_word c.loop-word.depth c.args.page c.index_of.result c.in-Word.word c.loop-word.table.now
    c.read.result.now c.index_of.ensures.value c.read.ensures c.in-Word.is
    ∙ c.loop-word.invariant.same

pub loop-word-smaller : goal.loop-word-smaller
loop-word-smaller g c = omega (arith, (below g c).0)
