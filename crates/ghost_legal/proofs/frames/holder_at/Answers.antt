use Rattle.std.proofs.Common.{◌∙◌, ap, Some}
use Rattle.ghost_legal.proofs.Steady.{held-inside, held-outside}
use Rattle.ghost_legal.proofs.frames.holder_at.Goals as goal

pub returns-then-place : goal.returns-then-place
returns-then-place c =
    ap Some c.later.ensures ∙ held-inside c.args.held.now c.args.frame c.args.place c.requires.place _ c.if-place.true

pub returns : goal.returns
returns c =
    held-outside c.args.held.now c.args.frame c.args.place c.requires.place c.requires.held.order c.if-place.false
