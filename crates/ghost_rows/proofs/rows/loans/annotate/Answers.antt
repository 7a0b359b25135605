use Rattle.std.proofs.Common.{Some, refl, sym, ◌∙◌}
use Rattle.page_state.specs.Rows.{advance_row}
use Rattle.run_list.specs.Runs.{run_map}
use Rattle.ghost_rows.proofs.RowsLaid.{annotated-laid, annotated-none, no_row}
use Rattle.ghost_rows.proofs.RowsPushed.{end-of, none-of}
use Rattle.ghost_rows.proofs.rows.loans.annotate.Goals as goal

pub returns-in_default-clause-end : goal.returns-in_default-clause-end
returns-in_default-clause-end c =
    none-of c.args.high c.args.run c.annotation.result c.annotation.ensures
    (no_row c.annotation.result c.in_default.not-Some)

pub returns-in_default-clause-map : goal.returns-in_default-clause-map
returns-in_default-clause-map c =
    annotated-none c.args.run (run_map advance_row c.args.rows.now.items) c.annotation.result c.annotation.ensures
    (no_row c.annotation.result c.in_default.not-Some)

pub returns-clause-end : goal.returns-clause-end
returns-clause-end c = end-of c.args.high c.args.run (Some c.in-Some.row) (sym c.in-Some.is ∙ c.annotation.ensures)

pub returns-clause-map : goal.returns-clause-map
returns-clause-map c =
    annotated-laid c.args.run (run_map advance_row c.args.rows.now.items)
    (run_map advance_row c.put_behind.new.rows.items) (Some c.in-Some.row)
    (sym c.in-Some.is ∙ c.annotation.ensures) refl c.in_ok-put_behind.ensures.map
