use Rattle.std.proofs.lemmas.List.Elements.{All-more}
use Rattle.ghost_sound.proofs.Loops.{all-taken}
use Rattle.ghost_sound.specs.inner.Pairs.{MeetsNone}
use Rattle.ghost_sound.proofs.pairs.twice_in.Goals as goal

pub loop-i-preserved : goal.loop-i-preserved
loop-i-preserved c =
    All-more
    (MeetsNone c.args.side c.args.state.now c.args.tree) c.args.runs.now c.loop-i.i _ c.loop-i-test.true
    c.loop-i.invariant c.in_default.ensures

pub returns : goal.returns
returns c =
    all-taken
    (MeetsNone c.args.side c.args.state.now c.args.tree) c.args.runs.now c.loop-i.i c.loop-i-test.false
    c.loop-i.invariant
