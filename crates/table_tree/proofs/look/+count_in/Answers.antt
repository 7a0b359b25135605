use Rattle.std.proofs.Common.{◌≤◌, ◌*◌, ◌^◌, ◌-◌, ◌∙◌, sym, arith}
use Rattle.std.proofs.Math.Nat.{mul-le-mul_left, mul-le-mul_right}
use Rattle.table_tree.proofs.Slots.{shaped_wide, shaped_slot, slot_child_is}
use Rattle.table_tree.proofs.Sums.{tables_zero, tables_more_word, tables_more_child, tables_all, powers}
use Rattle.table_tree.proofs.look.+count_in.Goals as goal
use Rattle.table_tree.proofs.look.+count_in.Goals.{in-Child, in_default}

pub returns-then-depth-eq0-clause-value : goal.returns-then-depth-eq0-clause-value
returns-then-depth-eq0-clause-value g t c = sym (tables_zero c.args.depth c.args.table.now c.if-depth-eq0.true)

pub read-requires-clause-wide : goal.read-requires-clause-wide
read-requires-clause-wide g t c = shaped_wide c.args.depth c.args.table.now c.requires.shape

pub count_in-count-requires : goal.count_in-count-requires
count_in-count-requires g t c κs within =
    let h =
    slot_child_is c.args.depth c.in-Child.child c.read.result.now
    (rw c.read.ensures
    (shaped_slot c.args.depth c.args.table.now c.loop-i.i c.requires.shape
    c.loop-i-test.true)) c.in-Child.is in
    let le : 1 ≤ c.args.depth = h.0 in
    (omega (arith, c.decreases), (within, (omega (arith, c.requires.depth_in), rw c.deref.ensures h.1)))

pub overflow_add-count : goal.overflow_add-count
overflow_add-count g t c =
    let p = powers c.args.depth (omega (arith, c.if-depth-eq0.false)) c.requires.depth_in in
    let m : c.loop-i.i * 1024 ^ (c.args.depth - 1) ≤ c.loop-i.i * 1048576 = mul-le-mul_left c.loop-i.i p.1.1 in
    omega (arith, p.1.1, m, c.count_in-count.ensures.small, c.loop-i.invariant.small, c.loop-i-test.true)

pub loop-i-preserved : goal.loop-i-preserved
loop-i-preserved g t c =
    let k : 1 ≤ c.args.depth = omega (arith, c.if-depth-eq0.false) in
    let wide = shaped_wide c.args.depth c.args.table.now c.requires.shape in
    elim c.match-read.branch [
      | in-Child w ↦ record {
        counted =
            omega (
              arith,
              w.count-is,
              rw w.deref.ensures at w.count_in-count.ensures.value,
              c.loop-i.invariant.counted,
              tables_more_child c.args.depth c.loop-i.i c.args.table.now w.in-Child.child c.read.result.now k
                  wide c.loop-i-test.true c.read.ensures w.in-Child.is,
            );
        small = omega (arith, w.count-is, w.count_in-count.ensures.small, c.loop-i.invariant.small);
      }
      | in_default w ↦ record {
        counted =
            omega (
              arith,
              w.count-is,
              c.loop-i.invariant.counted,
              tables_more_word c.args.depth c.loop-i.i w.in_default.field-0 c.args.table.now c.read.result.now
                  wide c.loop-i-test.true c.read.ensures w.in_default.is,
            );
        small = omega (arith, w.count-is, c.loop-i.invariant.small);
      }
    ]

pub returns-clause-value : goal.returns-clause-value
returns-clause-value g t c =
    c.loop-i.invariant.counted
    ∙ tables_all c.args.depth c.loop-i.i c.args.table.now
    (shaped_wide c.args.depth c.args.table.now c.requires.shape) c.loop-i-test.false

pub returns-clause-small : goal.returns-clause-small
returns-clause-small g t c =
    let p = powers c.args.depth (omega (arith, c.if-depth-eq0.false)) c.requires.depth_in in
    let m : c.loop-i.i * 1024 ^ (c.args.depth - 1) ≤ 512 * 1024 ^ (c.args.depth - 1) =
    mul-le-mul_right (1024 ^ (c.args.depth - 1)) c.loop-i.auto.i-end in
    omega (arith, p.0, p.1.0, m, c.loop-i.invariant.small)
