use Rattle.std.proofs.Common.{List, sym, ap, ◌∙◌}
use Rattle.std.specs.List.{list_any}
use Rattle.page_state.specs.declared.entry.Run.{Run}
use Rattle.page_state.specs.LayoutView.{layout_of}
use Rattle.page_state.specs.Rows.{advance_row}
use Rattle.run_list.specs.Runs.{run_map}
use Rattle.ghost_rows.specs.RowsLaid.{maps_in}
use Rattle.ghost_rows.proofs.RowsPages.{none-lent}
use Rattle.ghost_rows.proofs.rows.loans.lend_tree.Goals as goal

pub returns-then-not-any_in-clause-map : goal.returns-then-not-any_in-clause-map
returns-then-not-any_in-clause-map c f =
    none-lent c.args.state f (layout_of c.args.layout.now) c.args.number c.args.tree.now.runs.items
    (run_map advance_row c.args.rows.now.runs f)
    (ap (λ (rs : List Run). list_any (maps_in c.args.state) rs) (sym c.as_slice-runs.ensures.value)
    ∙ sym c.any_in.ensures ∙ c.if-not-any_in.true)
