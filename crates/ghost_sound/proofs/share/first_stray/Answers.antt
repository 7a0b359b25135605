use Rattle.ghost_spec.specs.States.{contents_in}
use Rattle.ghost_sound.specs.inner.Share.{IsStray}
use Rattle.ghost_sound.proofs.Loops.{match-both}
use Rattle.ghost_sound.proofs.SharedFrames.{all-shared, stray-is}
use Rattle.ghost_sound.proofs.share.first_stray.Goals as goal

pub returns : goal.returns
returns c =
    match-both (IsStray (contents_in c.args.state.now)) c.stray_found.result (all-shared c.args.state.now c.requires)
    (stray-is c.args.state.now c.requires) c.stray_found.ensures
