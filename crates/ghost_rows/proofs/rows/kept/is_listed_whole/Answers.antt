use Rattle.std.proofs.Common.{arith}
use Rattle.ghost_rows.proofs.RowsWhole.{annotated-passed, lent-passed, plain-passed}
use Rattle.ghost_rows.proofs.rows.kept.is_listed_whole.Goals as goal

pub returns-then-is_clear-2-clause-passed : goal.returns-then-is_clear-2-clause-passed
returns-then-is_clear-2-clause-passed c = λ h.
    plain-passed c.args.lists.now c.args.run.now c.args.stands.now c.args.steady c.requires.stands c.requires.steady
    (omega (arith, c.if-steady-end.false)) c.runs-annotated.ensures.coarsest c.runs-lent.ensures.coarsest
    (rw c.runs-annotated.ensures.runs at c.is_clear.ensures.0 c.if-is_clear.true)
    (rw c.runs-lent.ensures.runs at c.is_clear-then-is_clear.ensures.0 c.if-is_clear-2.true)
    (c.is_row.ensures.0 h)

pub returns-then-is_clear-clause-passed : goal.returns-then-is_clear-clause-passed
returns-then-is_clear-clause-passed c = λ h.
    lent-passed c.args.lists.now c.args.run.now c.args.stands.now c.args.steady c.requires.stands c.requires.steady
    (omega (arith, c.if-steady-end.false)) c.runs-annotated.ensures.coarsest c.runs-lent.ensures.coarsest
    (rw c.runs-annotated.ensures.runs at c.is_clear.ensures.0 c.if-is_clear.true)
    (rw c.runs-lent.ensures.runs at c.is_lent_on.ensures.0 c.if-not-is_lent_on.false)

pub returns-clause-passed : goal.returns-clause-passed
returns-clause-passed c = λ h.
    annotated-passed c.args.lists.now c.args.run.now c.args.stands.now c.args.steady c.requires.stands c.requires.steady
    (omega (arith, c.if-steady-end.false)) c.runs-annotated.ensures.coarsest c.runs-lent.ensures.coarsest
    (rw c.runs-lent.ensures.runs at c.is_clear-2.ensures.0 c.if-not-is_clear.false)
    (rw c.runs-annotated.ensures.runs at c.is_annotated_on.ensures.0 c.if-not-is_annotated_on.false)
