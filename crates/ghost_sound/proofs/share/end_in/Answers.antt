use Rattle.std.proofs.lemmas.List.Elements.{All-more}
use Rattle.ghost_sound.proofs.Loops.{all-taken}
use Rattle.ghost_sound.specs.inner.Share.{HasNot}
use Rattle.ghost_sound.proofs.share.end_in.Goals as goal

pub loop-i-preserved : goal.loop-i-preserved
loop-i-preserved c =
    All-more
    (HasNot c.args.frame) c.args.runs.now c.loop-i.i _ c.loop-i-test.true c.loop-i.invariant c.in_default.ensures

pub returns : goal.returns
returns c = all-taken (HasNot c.args.frame) c.args.runs.now c.loop-i.i c.loop-i-test.false c.loop-i.invariant
