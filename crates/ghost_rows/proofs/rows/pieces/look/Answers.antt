use Rattle.std.proofs.Common.{arith}
use Rattle.ghost_rows.proofs.ListedRows.{stand-on}
use Rattle.ghost_rows.proofs.rows.pieces.look.Goals as goal

pub returns-clause-goes_on : goal.returns-clause-goes_on
returns-clause-goes_on c =
    λ f a b. stand-on c.args.runs.now c.args.low f c.go_to.new.stand c.requires.coarsest c.go_to.ensures a
    (omega (arith, b))
