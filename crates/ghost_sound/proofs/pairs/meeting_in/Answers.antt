use Rattle.std.proofs.lemmas.List.Elements.{All-more}
use Rattle.ghost_sound.proofs.Loops.{all-taken}
use Rattle.ghost_sound.specs.inner.Pairs.{AreOne}
use Rattle.ghost_sound.proofs.pairs.meeting_in.Goals as goal

pub loop-i-preserved : goal.loop-i-preserved
loop-i-preserved c =
    All-more
    (AreOne c.args.side c.args.tree c.args.run c.args.other_tree) c.args.runs.now c.loop-i.i _ c.loop-i-test.true
    c.loop-i.invariant c.in_default.ensures

pub returns : goal.returns
returns c =
    all-taken
    (AreOne c.args.side c.args.tree c.args.run c.args.other_tree) c.args.runs.now c.loop-i.i c.loop-i-test.false
    c.loop-i.invariant
