use Rattle.ghost_spec.specs.States.{contents_in}
use Rattle.ghost_sound.specs.inner.Pairs.{IsTwice}
use Rattle.ghost_sound.proofs.HeldOnce.{held-once, is-twice}
use Rattle.ghost_sound.proofs.Loops.{match-both}
use Rattle.ghost_sound.proofs.pairs.twice.Goals as goal

pub returns : goal.returns
returns c =
    match-both (IsTwice c.args.side (contents_in c.args.state.now)) c.twice_found.result
    (held-once c.args.state.now c.requires c.args.side)
    (is-twice c.args.state.now c.requires c.args.side) c.twice_found.ensures
