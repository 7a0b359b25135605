use Rattle.std.proofs.Common.{Some, sym, ap, ◌∙◌}
use Rattle.ghost_rows.proofs.ListedRows.{stand-none, in-reach, row-there}
use Rattle.ghost_rows.proofs.rows.pieces.row_at.Goals as goal

pub advanced-requires : goal.advanced-requires
advanced-requires c =
    let here = c.requires.here in
    in-reach c.args.runs.now c.args.frame c.args.here.now.place here.at (here.inside c.if-here.true) _ c.requires.reach
    (here.begun c.if-here.true _)

pub returns-then-here : goal.returns-then-here
returns-then-here c =
    let here = c.requires.here in
    ap Some c.advanced.ensures
    ∙ sym
    (row-there c.args.runs.now c.args.frame c.args.here.now.place here.at (here.inside c.if-here.true) _
    (here.begun c.if-here.true _))

pub returns : goal.returns
returns c =
    sym (stand-none c.args.runs.now c.args.frame c.args.here.now c.requires.coarsest c.requires.here c.if-here.false)
