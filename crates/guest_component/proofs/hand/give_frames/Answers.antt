use Rattle.std.proofs.Common.{◌+◌, ◌-◌, ap, ◌∙◌, arith, length}
use Rattle.page_state.specs.Counts.{frame_count}
use Rattle.page_state.specs.Trees.{frames_from}
use Rattle.hyp_pool.proofs.Counts.{all_given_length, count_contains}
use Rattle.hyp_pool.proofs.Order.{length-frames_from}
use Rattle.walk_plan.proofs.Given.{not_there}
use Rattle.guest_component.proofs.Gains.{not_given}
use Rattle.guest_component.proofs.hand.give_frames.Goals as goal

pub give-requires-clause-new : goal.give-requires-clause-new
give-requires-clause-new c =
    let r = c.args.frames in
    let i = c.loop-i.i in
    let f = r.first.0 + (i - 1) in
    not_there count_contains f c.loop-i.pool.frames
    (ap (frame_count f) c.loop-i.invariant.frames
    ∙ not_given r i c.args.pool.now.frames c.loop-i-test.true c.loop-i.auto.i c.requires.apart)

pub give-requires-clause-room : goal.give-requires-clause-room
give-requires-clause-room c =
    let r = c.args.frames in
    let i = c.loop-i.i in
    let fs = frames_from (r.first.0 + i) (r.count - i) in
    let a = ap length c.loop-i.invariant.frames ∙ all_given_length fs c.args.pool.now.frames in
    omega (
      arith,
      a,
      length-frames_from (r.first.0 + i) (r.count - i),
      c.loop-i.invariant.room,
      c.requires.covered,
      c.loop-i.auto.i,
      c.loop-i-test.true,
    )
