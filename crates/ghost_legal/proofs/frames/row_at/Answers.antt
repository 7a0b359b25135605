use Rattle.std.proofs.Common.{◌∙◌}
use Rattle.ghost_legal.proofs.Steady.{row-inside, row-outside, row-reach}
use Rattle.ghost_legal.proofs.frames.row_at.Goals as goal

pub advanced-requires : goal.advanced-requires
advanced-requires c =
    row-reach c.args.rows.now c.args.frame c.args.place c.requires.place c.requires.reach _ c.if-place.true

pub returns-then-place : goal.returns-then-place
returns-then-place c =
    c.advanced.ensures ∙ row-inside c.args.rows.now c.args.frame c.args.place c.requires.place _ c.if-place.true

pub returns : goal.returns
returns c = row-outside c.args.rows.now c.args.frame c.args.place c.requires.place c.requires.coarsest c.if-place.false
