use Rattle.std.proofs.Common.{arith, sym, true, false, ◌≡◌, ◌∙◌}
use Rattle.ghost_legal.proofs.Found.{twice}
use Rattle.ghost_legal.proofs.Listed.{order_all, order_more}
use Rattle.ghost_legal.proofs.held.first_twice.Goals as goal

pub loop-i-preserved : goal.loop-i-preserved
loop-i-preserved c = record {
  some = omega (arith, c.loop-i.invariant.some);
  order =
      order_more c.args.held.now c.loop-i.i _ _ c.loop-i.invariant.some c.loop-i-test.true c.loop-i.invariant.order
      (c.ends_before.ensures.0 (search));
}

pub returns : goal.returns
returns c = order_all c.args.held.now c.loop-i.i c.loop-i-test.false c.loop-i.invariant.order

pub returns-then-not-ends_before : goal.returns-then-not-ends_before
returns-then-not-ends_before c =
    twice c.args.held.now c.loop-i.i _ c.loop-i.invariant.some c.loop-i-test.true c.requires.rise c.requires.some
    (λ h. let bad : true ≡ false = sym (c.ends_before.ensures.1 h) ∙ c.if-not-ends_before.true in cc)
