use Rattle.std.proofs.Common.{arith}
use Rattle.ghost_trees.specs.Trees.{table_of}
use Rattle.ghost_judge.proofs.PoolLists.{covered_one_more}
use Rattle.ghost_judge.proofs.pools.least.Goals as goal

pub loop-i-init : goal.loop-i-init
loop-i-init c = (c.requires, λ k t l. absurd (omega (arith, l)), λ b h. h)

pub lesser-least-requires : goal.lesser-least-requires
lesser-least-requires c = c.loop-i.invariant.0

pub loop-i-preserved : goal.loop-i-preserved
loop-i-preserved c = (
  c.lesser-least.ensures.unlike,
  covered_one_more (table_of c.args.a.now) (table_of c.args.b.now) c.loop-i.least c.lesser-least.result
      c.args.tables.now c.loop-i.i _ c.lesser-least.ensures.more c.loop-i.invariant.1 c.lesser-least.ensures.covered
      c.loop-i-test.true,
  λ b h. c.lesser-least.ensures.more b (c.loop-i.invariant.2 b h),
)
