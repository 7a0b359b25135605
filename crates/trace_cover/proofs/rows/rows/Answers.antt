use Rattle.std.proofs.Common.{◌∙◌, ◌++◌, List, ap₂}
use Rattle.call_table.specs.declared.row.CallName.{CallName}
use Rattle.trace_cover.specs.declared.rows.Row.{Row}
use Rattle.trace_cover.specs.Rows.{rows, rows_in}
use Rattle.trace_cover.proofs.rows.rows.Goals as goal

pub returns : goal.returns
unfolding rows
returns c =
    c.in_ok-add_rows.ensures
    ∙ ap₂ (λ (a : List Row) (b : List CallName). a ++ rows_in b) c.new-rows.ensures.items c.all.ensures
