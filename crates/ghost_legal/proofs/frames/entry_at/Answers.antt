use Rattle.ghost_legal.proofs.Steady.{entry-inside, entry-outside}
use Rattle.ghost_legal.proofs.frames.entry_at.Goals as goal

pub returns-then-place : goal.returns-then-place
returns-then-place c =
    rw (c.advance.ensures, c.from.ensures)
    (entry-inside c.args.runs.now c.args.page c.args.place c.requires.place _ c.if-place.true)

pub returns : goal.returns
returns c = entry-outside c.args.runs.now c.args.page c.args.place c.requires.place c.requires.coarsest c.if-place.false
