use Rattle.std.proofs.Common.{sym, ◌∙◌}
use Rattle.ghost_sound.proofs.SharedFrames.{ends}
use Rattle.ghost_sound.proofs.share.end_on.Goals as goal

pub returns : goal.returns
returns c =
    ends c.args.run c.in-Some.first c.args.frame
    (sym c.first_frame.ensures.value ∙ c.in-Some.is) c.if-frame-first.false c.if-frame-first-2.false
