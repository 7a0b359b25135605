use Rattle.ghost_rows.proofs.RowsLaid.{before_all}
use Rattle.ghost_rows.proofs.rows.overlay.begins_from.Goals as goal

pub returns-else-is_empty : goal.returns-else-is_empty
returns-else-is_empty c t f less =
    before_all c.args.rows.now.runs _ c.args.frame c.runs-runs.ensures.coarsest
    (rw c.runs-runs.ensures.runs at t) f less
