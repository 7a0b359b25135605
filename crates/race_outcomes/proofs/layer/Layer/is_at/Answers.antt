use Rattle.std.proofs.Common.{arith}
use Rattle.race_outcomes.proofs.Indexed.{at_place, not_at_place}
use Rattle.race_outcomes.proofs.layer.Layer.is_at.Goals as goal

pub returns-clause-same : goal.returns-clause-same
returns-clause-same c h =
    at_place c.args.self.now.nodes.items c.args.place c.args.node.now c.index.result.now c.index.ensures
    (omega (arith, c.if-place-len.false, c.len.ensures)) (c.is_same_point.ensures.same h)

pub returns-clause-apart : goal.returns-clause-apart
returns-clause-apart c e =
    not_at_place c.args.self.now.nodes.items c.args.place c.args.node.now c.index.result.now c.index.ensures
    (c.is_same_point.ensures.apart e)
