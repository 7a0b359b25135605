use Rattle.std.proofs.Common.{arith, sym}
use Rattle.ghost_trees.proofs.Following.{next_more}
use Rattle.ghost_trees.proofs.apart.increase.Goals as goal

pub loop-i-preserved : goal.loop-i-preserved
loop-i-preserved c =
    next_more c.args.items.now c.loop-i.i (omega (arith, c.loop-i.auto.i)) (omega (arith, c.loop-i-test.true))
    c.if-items-i.false c.loop-i.invariant

pub returns : goal.returns
returns c = λ t j k d h l. c.loop-i.invariant j k d h (omega (arith, l, c.loop-i-test.false))
