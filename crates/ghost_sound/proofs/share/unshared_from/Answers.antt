use Rattle.std.proofs.Common.{arith}
use Rattle.ghost_sound.proofs.SharedFrames.{shared-on}
use Rattle.ghost_sound.proofs.share.unshared_from.Goals as goal

pub loop-at-preserved : goal.loop-at-preserved
loop-at-preserved c =
    let to = c.in-Some.ensures in
    record {
      from = omega (arith, c.loop-at.invariant.from, to.2.4.above);
      shared = shared-on c.args.state.now c.args.first c.loop-at.at c.in-Some.next c.loop-at.invariant.shared to;
    }
