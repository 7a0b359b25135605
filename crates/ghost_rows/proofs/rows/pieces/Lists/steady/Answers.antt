use Rattle.std.proofs.Common.{◌∙◌, List, ap, arith}
use Rattle.page_state.specs.declared.row.Row.{Row}
use Rattle.page_state.specs.Rows.{advance_row}
use Rattle.run_list.specs.declared.run.Run.{Run}
use Rattle.run_list.specs.Runs.{run_map}
use Rattle.ghost_rows.specs.ListedRows.{lent_told, number_told, usage_told}
use Rattle.ghost_rows.proofs.RowsWhole.{steady-told}
use Rattle.ghost_rows.proofs.rows.pieces.Lists.steady.Goals as goal

pub returns-clause-steady : goal.returns-clause-steady
returns-clause-steady c =
    steady-told c.args.frame c.go_to.new.stand c.go_to-2.new.stand _ c.args.self.now c.runs-shared.ensures.coarsest
    c.runs-used.ensures.coarsest
    (rw c.runs-shared.ensures.runs at c.go_to.ensures)
    (rw c.runs-used.ensures.runs at c.go_to-2.ensures)
    (omega (arith, c.min.ensures))
    (omega (arith, c.min.ensures))
    (c.number_of.ensures
    ∙ ap number_told
    (c.lent_of.ensures
    ∙ ap lent_told
    (c.row_at.ensures
    ∙ ap
    (λ (rs : List (Run Row)). run_map advance_row rs c.args.frame) c.runs-shared.ensures.runs)))
    (c.usage_of.ensures
    ∙ ap usage_told
    (c.row_at-2.ensures
    ∙ ap (λ (rs : List (Run Row)). run_map advance_row rs c.args.frame) c.runs-used.ensures.runs))
