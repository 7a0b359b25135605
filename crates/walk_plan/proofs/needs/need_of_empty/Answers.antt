use Rattle.std.proofs.Common.{◌*◌, ◌^◌, ◌≤◌, arith}
use Rattle.std.proofs.Math.Nat.{mul-le-mul_left}
use Rattle.page_state.specs.declared.entry.Entry.TheVariants.{Unmapped}
use Rattle.walk_plan.specs.Changes.{part}
use Rattle.walk_plan.specs.inner.Needs.{met, block_parts}
use Rattle.walk_plan.proofs.Ranges.{part_in, part_is, met_some, met_start, met_end, sum_next, span, block_parts_is, powers_next}
use Rattle.walk_plan.proofs.needs.need_of_empty.Goals as goal

pub loop-i-init : goal.loop-i-init
loop-i-init c =
    record {
      counted = omega (arith, met_start c.args.depth c.args.change (block_parts c.args.depth Unmapped));
      small = omega arith;
    }

pub part-requires-clause-within : goal.part-requires-clause-within
part-requires-clause-within c = part_in c.args.depth c.loop-i.i c.args.change c.requires.change_in c.loop-i-test.true

pub need_of_block-count-requires-clause-change_in : goal.need_of_block-count-requires-clause-change_in
need_of_block-count-requires-clause-change_in c =
    rw c.part.ensures
    (part_is c.args.depth c.loop-i.i c.args.change c.requires.change_in c.loop-i.auto.i c.loop-i-test.true)

pub overflow_add-count : goal.overflow_add-count
overflow_add-count c =
    let p = powers_next c.args.depth c.requires.depth_in in
    let i = part_in c.args.depth c.loop-i.i c.args.change c.requires.change_in c.loop-i-test.true in
    let m : c.loop-i.i * 1024 ^ c.args.depth ≤ c.loop-i.i * 1073741824 = mul-le-mul_left c.loop-i.i p.2 in
    omega (arith, p.2, c.need_of_block-count.ensures.small, c.loop-i.invariant.small, m, i)

pub loop-i-preserved : goal.loop-i-preserved
loop-i-preserved c =
    let d = c.args.depth in
    let n =
    met_some d c.loop-i.i c.args.change (block_parts d Unmapped)
    (part_is d c.loop-i.i c.args.change c.requires.change_in c.loop-i.auto.i c.loop-i-test.true) in
    let s = sum_next (met d c.args.change (block_parts d Unmapped)) c.loop-i.i in
    let v = rw c.part.ensures at c.need_of_block-count.ensures.value in
    record {
      counted = omega (
        arith,
        n,
        s,
        v,
        block_parts_is d Unmapped c.loop-i.i (part d c.loop-i.i c.args.change),
        c.loop-i.invariant.counted,
      );
      small = omega (arith, c.need_of_block-count.ensures.small, c.loop-i.invariant.small);
    }

pub returns : goal.returns
returns c =
    let s = span c.args.depth c.args.change c.requires.change_in in
    let e =
    met_end c.args.depth c.loop-i.i c.args.change
    (block_parts c.args.depth Unmapped) c.requires.change_in c.loop-i-test.false
    (omega (arith, c.loop-i.auto.i-end s.0, s.1)) in
    omega (arith, e, c.loop-i.invariant.counted)
