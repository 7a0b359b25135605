use Rattle.std.proofs.Common.{◌-◌, arith}
use Rattle.ghost_rows.proofs.ListedRows.{small-piece}
use Rattle.ghost_rows.proofs.rows.pieces.Lists.look.Goals as goal

pub returns-clause-small : goal.returns-clause-small
returns-clause-small c =
    let high = c.look.result in
    let a = c.look.ensures.above in
    let b = c.look.ensures.below in
    let d = c.look-high-3.ensures.below in
    let on = rw c.runs-2.ensures.runs at c.look-high-2.ensures.goes_on in
    small-piece c.args.self.now.lent.runs c.args.low high c.requires.reach.lent a
    (on (high - 1) (omega (arith, a)) (omega (arith, a, b, d)))
