use Rattle.std.proofs.Common.{◌≡◌, ◌+◌, ◌-◌, ◌*◌, ◌^◌, ◌≤◌, sym, ap, ◌∙◌, arith}
use Rattle.std.proofs.Math.Nat.{mul-le-mul_left, mul-le-mul_right}
use Rattle.walk_plan.specs.Changes.{part}
use Rattle.walk_plan.specs.inner.Needs.{met, table_parts}
use Rattle.walk_plan.proofs.Ranges.{part_in, part_is, met_some, met_start, met_end, sum_next, change_below, leaf_need, span, table_parts_is, said_range, slot_word, slot_child, powers_next}
use Rattle.walk_plan.proofs.Looks.{ends_start, ends_next, ends_end, whole_parts, whole_edges, child_looks, some_part}
use Rattle.table_tree.specs.Reading.{count_of}
use Rattle.table_tree.proofs.Slots.{shaped_wide}
use Rattle.walk_plan.proofs.Seen.{seen_deep, seen_child}
use Rattle.walk_plan.proofs.needs.+need_of_table.Goals as goal
use Rattle.walk_plan.proofs.needs.+need_of_table.Goals.{in-Word, in-Child+then-depth-eq1, in-Child+else-depth-eq1}

pub loop-i-init : goal.loop-i-init
loop-i-init g t c =
    record {
      counted = omega (arith, met_start c.args.depth c.args.change (table_parts c.args.depth c.args.table.now));
      small =
          omega arith;
      reads =
          omega (arith, ends_start (2 * c.args.depth) c.args.depth c.args.change c.requires.change_in.some);
    }

pub part-part-requires-clause-within : goal.part-part-requires-clause-within
part-part-requires-clause-within g t c =
    part_in c.args.depth c.loop-i.i c.args.change c.requires.change_in c.loop-i-test.true

pub slot-requires-clause-within : goal.slot-requires-clause-within
slot-requires-clause-within g t c =
    part_in c.args.depth c.loop-i.i c.args.change c.requires.change_in c.loop-i-test.true

pub slot-requires-clause-wide : goal.slot-requires-clause-wide
slot-requires-clause-wide g t c = shaped_wide c.args.depth c.args.table.now c.requires.shape

pub need_of_block-requires-clause-change_in : goal.need_of_block-requires-clause-change_in
need_of_block-requires-clause-change_in g t c =
    rw c.part-part.ensures
    (part_is c.args.depth c.loop-i.i c.args.change c.requires.change_in c.loop-i.auto.i c.loop-i-test.true)

pub need_of_block-requires-clause-old_in : goal.need_of_block-requires-clause-old_in
need_of_block-requires-clause-old_in g t c =
    said_range c.args.depth c.entry_of.result c.requires.depth_in
    (c.entry_of.ensures.said
    (c.slot.ensures.tree.word_shape c.in-Word.word c.args.depth c.in-Word.is c.requires.shape))

pub overflow_sub-depth : goal.overflow_sub-depth
overflow_sub-depth g t c =
    seen_deep c.args.depth c.loop-i.i c.args.table.now _ c.in-Child.child c.slot.ensures.tree c.in-Child.is
    c.requires.shape

pub need_of_table-requires : goal.need_of_table-requires
need_of_table-requires g t c κs within =
    let le : 1 ≤ c.args.depth =
    seen_deep c.args.depth c.loop-i.i c.args.table.now _ c.in-Child.child c.slot.ensures.tree c.in-Child.is
    c.requires.shape in
    let p = part_is c.args.depth c.loop-i.i c.args.change c.requires.change_in c.loop-i.auto.i c.loop-i-test.true in (
      omega (arith, c.decreases),
      (
        within,
        (
          omega (arith, c.requires.depth_in),
          (
            rw c.deref.ensures
                (seen_child c.args.depth c.loop-i.i c.args.table.now _ c.in-Child.child c.slot.ensures.tree
                c.in-Child.is c.requires.shape),
            change_below c.args.depth c.part-part.result le (rw c.part-part.ensures p),
          ),
        ),
      ),
    )

pub overflow_add-count : goal.overflow_add-count
overflow_add-count g t c =
    let p = powers_next c.args.depth c.requires.depth_in in
    let i = (part_in c.args.depth c.loop-i.i c.args.change c.requires.change_in c.loop-i-test.true) in
    let m : c.loop-i.i * 1024 ^ c.args.depth ≤ c.loop-i.i * 1073741824 = mul-le-mul_left c.loop-i.i p.2 in
    elim c.match-slot.branch [
      | in-Word w ↦ omega (arith, p.2, w.count-is, w.need_of_block.ensures.small, c.loop-i.invariant.small, m, i)
      | in-Child+then-depth-eq1 w ↦ omega (arith, p.2, w.count-is, c.loop-i.invariant.small, m, i)
      | in-Child+else-depth-eq1 w ↦
          let e : c.args.depth - 1 + 1 ≡ c.args.depth =
          let le =
          seen_deep c.args.depth c.loop-i.i c.args.table.now _ w.in-Child.child c.slot.ensures.tree
          w.in-Child.is c.requires.shape in
          omega (arith, le) in
          omega (arith, p.2, w.count-is, rw e at w.need_of_table.ensures.small, c.loop-i.invariant.small, m, i)
    ]

pub loop-i-preserved : goal.loop-i-preserved
loop-i-preserved g t c =
    let q = part_is c.args.depth c.loop-i.i c.args.change c.requires.change_in c.loop-i.auto.i c.loop-i-test.true in
    let n = met_some c.args.depth c.loop-i.i c.args.change (table_parts c.args.depth c.args.table.now) q in
    let s = sum_next (met c.args.depth c.args.change (table_parts c.args.depth c.args.table.now)) c.loop-i.i in
    let y =
    ends_next
    (2 * c.args.depth) c.args.depth c.loop-i.i c.args.change c.requires.change_in c.loop-i.auto.i
    c.loop-i-test.true in
    let k = table_parts_is c.args.depth c.args.table.now c.loop-i.i (part c.args.depth c.loop-i.i c.args.change) in
    elim c.match-slot.branch [
      | in-Word w ↦
          let v = rw (c.part-part.ensures, w.entry_of.ensures.value) at w.need_of_block.ensures.value in
          let x =
          slot_word c.args.depth w.in-Word.word _ (part c.args.depth c.loop-i.i c.args.change)
          (sym c.slot.ensures.value ∙ w.in-Word.is) in
          record {
            counted = omega (arith, n, s, k, v, x, w.count-is, c.loop-i.invariant.counted);
            small =
                omega (arith, w.count-is, w.need_of_block.ensures.small, c.loop-i.invariant.small);
            reads =
                omega (
                  arith,
                  y.0,
                  y.1,
                  q.some,
                  ap count_of w.reads-is,
                  c.slot.ensures.reads,
                  c.loop-i.invariant.reads,
                  c.loop-i.auto.i,
                );
          }
      | in-Child+then-depth-eq1 w ↦
          let deep : 1 ≤ c.args.depth = omega (arith, w.if-depth-eq1.true) in
          let v =
          leaf_need w.in-Child.child.value (c.args.depth - 1) (part c.args.depth c.loop-i.i c.args.change)
          (omega (arith, w.if-depth-eq1.true)) in
          let x =
          slot_child c.args.depth w.in-Child.child _ (part c.args.depth c.loop-i.i c.args.change) deep
          (sym c.slot.ensures.value ∙ w.in-Child.is) in
          record {
            counted = omega (arith, n, s, k, v, x, w.count-is, c.loop-i.invariant.counted);
            small =
                omega (arith, w.count-is, c.loop-i.invariant.small);
            reads =
                omega (
                  arith,
                  y.0,
                  y.1,
                  q.some,
                  ap count_of w.reads-is,
                  c.slot.ensures.reads,
                  c.loop-i.invariant.reads,
                  c.loop-i.auto.i,
                );
          }
      | in-Child+else-depth-eq1 w ↦
          let le : 1 ≤ c.args.depth =
          seen_deep c.args.depth c.loop-i.i c.args.table.now _ w.in-Child.child c.slot.ensures.tree w.in-Child.is
          c.requires.shape in
          let e : c.args.depth - 1 + 1 ≡ c.args.depth = omega arith in
          let v = rw (c.part-part.ensures, w.deref.ensures) at w.need_of_table.ensures.value in
          let z =
          rw c.part-part.ensures at
          (child_looks c.args.depth (count_of c.slot.new.reads)
          (count_of w.need_of_table.new.reads) c.part-part.result le w.need_of_table.ensures.reads
          w.need_of_table.ensures.whole) in
          let x =
          slot_child c.args.depth w.in-Child.child _ (part c.args.depth c.loop-i.i c.args.change) le
          (sym c.slot.ensures.value ∙ w.in-Child.is) in
          record {
            counted = omega (arith, n, s, k, v, x, w.count-is, c.loop-i.invariant.counted);
            small =
                omega (arith, w.count-is, rw e at w.need_of_table.ensures.small, c.loop-i.invariant.small);
            reads =
                omega (
                  arith,
                  y.0,
                  y.1,
                  z,
                  ap count_of w.reads-is,
                  c.slot.ensures.reads,
                  c.loop-i.invariant.reads,
                  c.loop-i.auto.i,
                );
          }
    ]

pub returns-clause-value : goal.returns-clause-value
returns-clause-value g t c =
    let s = span c.args.depth c.args.change c.requires.change_in in
    let e =
    met_end c.args.depth c.loop-i.i c.args.change
    (table_parts c.args.depth c.args.table.now) c.requires.change_in c.loop-i-test.false
    (omega (arith, c.loop-i.auto.i-end s.0, s.1)) in
    omega (arith, e, c.loop-i.invariant.counted)

pub returns-clause-small : goal.returns-clause-small
returns-clause-small g t c =
    let s = span c.args.depth c.args.change c.requires.change_in in
    let i : c.loop-i.i ≤ 512 = omega (arith, c.loop-i.auto.i-end s.0, s.1) in
    let p = powers_next c.args.depth c.requires.depth_in in
    let m : c.loop-i.i * 1024 ^ c.args.depth ≤ 512 * 1024 ^ c.args.depth = mul-le-mul_right (1024 ^ c.args.depth) i in
    omega (arith, p.0, p.1, m, c.loop-i.invariant.small)

pub returns-clause-reads : goal.returns-clause-reads
returns-clause-reads g t c =
    let s = span c.args.depth c.args.change c.requires.change_in in
    let e =
    ends_end (2 * c.args.depth) c.args.depth c.loop-i.i c.args.change c.requires.change_in c.loop-i-test.false
    (omega (arith, c.loop-i.auto.i-end s.0, s.1)) in
    let p = some_part c.args.depth c.args.change c.requires.change_in.some in
    omega (arith, e.0, e.1, p, c.loop-i-test.false, c.loop-i.invariant.reads)

pub returns-clause-whole : goal.returns-clause-whole
returns-clause-whole g t c x y =
    let s = span c.args.depth c.args.change c.requires.change_in in
    let e =
    ends_end (2 * c.args.depth) c.args.depth c.loop-i.i c.args.change c.requires.change_in c.loop-i-test.false
    (omega (arith, c.loop-i.auto.i-end s.0, s.1)) in
    let z = whole_edges (2 * c.args.depth) (c.args.depth + 1) c.args.change x y in
    let w = whole_parts c.args.depth c.loop-i.i c.args.change x y c.loop-i-test.false in
    omega (arith, e.0, e.1, z, w.0, w.1, c.loop-i.invariant.reads)
