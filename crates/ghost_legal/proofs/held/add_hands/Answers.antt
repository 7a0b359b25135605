use Rattle.std.proofs.Common.{take}
use Rattle.ghost_legal.specs.Listed.{hands_held}
use Rattle.ghost_legal.proofs.Listed.{hands_more, next_behind}
use Rattle.ghost_legal.proofs.held.add_hands.Goals as goal

pub loop-i-preserved : goal.loop-i-preserved
loop-i-preserved c =
    next_behind c.args.held.now.items c.loop-i.held.items c.add_hand.new.held.items _
    (λ n. hands_held 0 (take n c.args.cpus.now)) c.loop-i.i c.loop-i.invariant c.in_ok-add_hand.ensures
    (hands_more c.args.cpus.now c.loop-i.i _ c.loop-i-test.true)
