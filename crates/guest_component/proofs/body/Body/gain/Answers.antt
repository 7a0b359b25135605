use Rattle.std.proofs.Common.{arith}
use Rattle.table_tree.proofs.Sums.{tree_some}
use Rattle.guest_component.proofs.Gains.{gained}
use Rattle.guest_component.proofs.body.Body.gain.Goals as goal

pub give_frames-requires-clause-covered : goal.give_frames-requires-clause-covered
give_frames-requires-clause-covered g c =
    let b = c.args.self.now in
    let own = b.own in
    omega (arith, c.requires.few, tree_some b.map.tree, own.1.1)

pub invariant_of-self : goal.invariant_of-self
invariant_of-self g c =
    let b = c.args.self.now in
    record {
      own = gained b.map.tree b.pool c.give_frames.new.pool c.args.frames b.own
          (record { apart = c.requires.apart; few = c.requires.few; low = c.requires.low }) c.give_frames.ensures.frames
          c.give_frames.ensures.room;
    }
