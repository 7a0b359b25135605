use Rattle.std.proofs.Common.{ℕ, ◌-◌, ◌*◌, ◌^◌, ◌≤◌, sym, ◌∙◌, arith}
use Rattle.std.proofs.Math.Nat.{mul-le-mul_left, mul-le-mul_right}
use Rattle.walk_plan.specs.Changes.{IsChange, part}
use Rattle.walk_plan.specs.inner.Needs.{met, block_parts}
use Rattle.walk_plan.proofs.Ranges.{part_in, part_is, met_some, met_start, met_end, sum_next, block_none, block_one, block_split, powers, change_below, block_part, thousand, span, block_parts_is}
use Rattle.walk_plan.proofs.needs.+need_of_block.Goals as goal
use Rattle.walk_plan.proofs.needs.+need_of_block.Goals.{then-depth-eq0-via-then-depth-eq0, then-depth-eq0-via-else-depth-eq0+then-is_one_word}

pub returns-then-depth-eq0-clause-value : goal.returns-then-depth-eq0-clause-value
returns-then-depth-eq0-clause-value t c =
    elim c.then-depth-eq0.branch [
      | then-depth-eq0-via-then-depth-eq0 w ↦ sym (block_none c.args.depth c.args.old c.args.change w.if-depth-eq0.true)
      | then-depth-eq0-via-else-depth-eq0+then-is_one_word w ↦ sym
          (block_one c.args.depth c.args.old c.args.change (sym w.is_one_word.ensures ∙ w.if-is_one_word.true))
    ]

pub returns-then-depth-eq0-clause-small : goal.returns-then-depth-eq0-clause-small
returns-then-depth-eq0-clause-small t c = thousand c.args.depth

pub loop-i-init : goal.loop-i-init
loop-i-init t c =
    record {
      counted = omega
          (arith, met_start (c.args.depth - 1) c.args.change (block_parts (c.args.depth - 1) c.args.old));
      small = omega arith;
    }

pub part-requires-clause-within : goal.part-requires-clause-within
part-requires-clause-within t c =
    part_in (c.args.depth - 1) c.loop-i.i c.args.change
    (change_below c.args.depth c.args.change
    (omega (arith, c.if-depth-eq0.false)) c.requires.change_in) c.loop-i-test.true

pub pages_before-requires-clause-index_in : goal.pages_before-requires-clause-index_in
pages_before-requires-clause-index_in t c =
    part_in (c.args.depth - 1) c.loop-i.i c.args.change
    (change_below c.args.depth c.args.change
    (omega (arith, c.if-depth-eq0.false)) c.requires.change_in) c.loop-i-test.true

met_part : (t : ℕ) (c : goal.After-part t)
    → IsChange (c.args.depth - 1) (part (c.args.depth - 1) c.loop-i.i c.args.change)
met_part t c =
    part_is (c.args.depth - 1) c.loop-i.i c.args.change
    (change_below c.args.depth c.args.change
    (omega (arith, c.if-depth-eq0.false)) c.requires.change_in) c.loop-i.auto.i c.loop-i-test.true

pub need_of_block-count-requires : goal.need_of_block-count-requires
need_of_block-count-requires t c =
    let le : 1 ≤ c.args.depth = omega (arith, c.if-depth-eq0.false) in
    let i =
    part_in (c.args.depth - 1) c.loop-i.i c.args.change
    (change_below c.args.depth c.args.change le c.requires.change_in) c.loop-i-test.true in (
      omega (arith, c.decreases),
      (
        omega (arith, c.requires.depth_in),
        (
          rw c.part.ensures (met_part t c),
          rw (c.advance-entry.ensures, c.pages_before.ensures.value)
              (block_part c.args.depth c.loop-i.i c.args.old le i c.requires.old_in),
        ),
      ),
    )

pub overflow_add-count : goal.overflow_add-count
overflow_add-count t c =
    let p = powers c.args.depth (omega (arith, c.if-depth-eq0.false)) c.requires.depth_in in
    let i =
    part_in (c.args.depth - 1) c.loop-i.i c.args.change
    (change_below c.args.depth c.args.change
    (omega (arith, c.if-depth-eq0.false)) c.requires.change_in) c.loop-i-test.true in
    let m : c.loop-i.i * 1024 ^ (c.args.depth - 1) ≤ c.loop-i.i * 1048576 = mul-le-mul_left c.loop-i.i p.2 in
    omega (arith, p.2, c.need_of_block-count.ensures.small, c.loop-i.invariant.small, m, i)

pub loop-i-preserved : goal.loop-i-preserved
loop-i-preserved t c =
    let d = c.args.depth - 1 in
    let n =
    met_some d c.loop-i.i c.args.change (block_parts d c.args.old)
    (part_is d c.loop-i.i c.args.change
    (change_below c.args.depth c.args.change
    (omega (arith, c.if-depth-eq0.false)) c.requires.change_in) c.loop-i.auto.i c.loop-i-test.true) in
    let s = sum_next (met d c.args.change (block_parts d c.args.old)) c.loop-i.i in
    let v =
    rw
    (c.part.ensures, c.advance-entry.ensures, c.pages_before.ensures.value) at
    c.need_of_block-count.ensures.value in
    record {
      counted = omega (
        arith,
        n,
        s,
        v,
        block_parts_is d c.args.old c.loop-i.i (part d c.loop-i.i c.args.change),
        c.loop-i.invariant.counted,
      );
      small = omega (arith, c.need_of_block-count.ensures.small, c.loop-i.invariant.small);
    }

pub returns-clause-value : goal.returns-clause-value
returns-clause-value t c =
    let le : 1 ≤ c.args.depth = omega (arith, c.if-depth-eq0.false) in
    let h = change_below c.args.depth c.args.change le c.requires.change_in in
    let s = span (c.args.depth - 1) c.args.change h in
    let e =
    met_end (c.args.depth - 1) c.loop-i.i c.args.change
    (block_parts (c.args.depth - 1) c.args.old) h c.loop-i-test.false
    (omega (arith, c.loop-i.auto.i-end s.0, s.1)) in
    omega (
      arith,
      e,
      c.loop-i.invariant.counted,
      block_split c.args.depth c.args.old c.args.change le (sym c.is_one_word.ensures ∙ c.if-is_one_word.false),
    )

pub returns-clause-small : goal.returns-clause-small
returns-clause-small t c =
    let le : 1 ≤ c.args.depth = omega (arith, c.if-depth-eq0.false) in
    let p = powers c.args.depth le c.requires.depth_in in
    let s = span (c.args.depth - 1) c.args.change (change_below c.args.depth c.args.change le c.requires.change_in) in
    let i : c.loop-i.i ≤ 512 = omega (arith, c.loop-i.auto.i-end s.0, s.1) in
    let m : c.loop-i.i * 1024 ^ (c.args.depth - 1) ≤ 512 * 1024 ^ (c.args.depth - 1) =
    mul-le-mul_right (1024 ^ (c.args.depth - 1)) i in
    omega (arith, p.0, p.1, m, c.loop-i.invariant.small)
