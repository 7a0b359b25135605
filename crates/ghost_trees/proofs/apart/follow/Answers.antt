use Rattle.std.proofs.Common.{arith}
use Rattle.ghost_trees.proofs.Following.{next_apart, next_ended}
use Rattle.ghost_trees.proofs.apart.follow.Goals as goal

pub loop-i-preserved : goal.loop-i-preserved
loop-i-preserved g c =
    let begins = rw c.pages.ensures at c.in-Some.ensures.0 in
    let ends = rw c.pages.ensures at c.in-Some.ensures.1 in
    record {
      ended =
          next_ended g.T.Paged.pages_of c.args.items.now c.loop-i.i c.loop-i.until c.index-items-i.result
          (omega (arith, c.loop-i-test.true)) c.index-items-i.is c.loop-i.invariant.ended begins c.in-Some.end ends;
      apart =
          next_apart g.T.Paged.pages_of c.args.items.now c.loop-i.i c.loop-i.until c.index-items-i.result
          (omega (arith, c.loop-i-test.true)) c.index-items-i.is c.loop-i.invariant.ended
          begins c.loop-i.invariant.apart;
    }
