use Rattle.std.proofs.Common.{◌<◌, arith, length}
use borrow.Author.Count.{below_more}
use Rattle.page_state.specs.LayoutView.{layout_of}
use Rattle.race_outcomes.specs.Layers.{HasStep, IsSpreadFault, point_of}
use Rattle.race_outcomes.proofs.Crowded.{spread_fault}
use Rattle.race_outcomes.proofs.Found.{passed}
use Rattle.race_outcomes.proofs.Layers.{has_stays, spread_more}
use Rattle.race_outcomes.proofs.Orders.{makes_within}
use Rattle.race_outcomes.proofs.layer.spread.Goals as goal

pub loop-place-preserved : goal.loop-place-preserved
loop-place-preserved c =
    let turns = c.args.turns.now in
    let wanted = c.args.wanted.now in
    let node = c.args.node.now in
    let old = c.loop-place.layer.nodes.items in
    let new = c.spread_at.new.layer.nodes.items in
    let so = c.loop-place.invariant in
    let more = c.in_ok-spread_at.ensures in
    record {
      spread = spread_more turns wanted node c.args.layer.now.nodes.items old new so.spread more.spread;
      indexed = more.indexed;
      at_hand = more.at_hand;
      has =
          below_more (λ k. HasStep turns wanted node new k) c.loop-place.place
          (λ k h. has_stays turns wanted node node old new k more.spread (so.has k h)) more.has;
    }

pub returns-clause-has : goal.returns-clause-has
returns-clause-has c place q makes are =
    let within : place < length c.args.turns.now =
    makes_within (layout_of c.args.node.now.state.layout) c.args.turns.now
    (point_of c.args.node.now) place q makes in
    c.loop-place.invariant.has place (omega (arith, within, c.loop-place-test.false)) q makes are

pub returns-in_err-spread_at-clause-fault : goal.returns-in_err-spread_at-clause-fault
returns-in_err-spread_at-clause-fault c =
    let turns = c.args.turns.now in
    let wanted = c.args.wanted.now in
    let node = c.args.node.now in
    let old = c.args.layer.now.nodes.items in
    passed (IsSpreadFault turns wanted c.args.limit node old) c.from_residual.result _ c.from_residual.ensures.1
    (spread_fault turns wanted c.args.limit node old c.loop-place.layer.nodes.items _ c.loop-place.invariant.spread
    c.in_err-spread_at.ensures.fault)
