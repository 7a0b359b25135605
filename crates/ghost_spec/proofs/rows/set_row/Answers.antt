use Rattle.std.proofs.lemmas.Result.{IfOk-weaker}
use Rattle.ghost_spec.proofs.RowsKept.{row-set}
use Rattle.ghost_spec.proofs.rows.set_row.Goals as goal

pub returns-clause-row : goal.returns-clause-row
returns-clause-row c =
    IfOk-weaker _ _ _
    (λ _ h. row-set c.args.rows.now.runs c.set_run.new.rows.runs c.args.frame c.args.row h) c.set_run.ensures.map
