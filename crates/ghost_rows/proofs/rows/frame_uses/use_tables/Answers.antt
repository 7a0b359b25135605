use Rattle.std.proofs.Common.{◌∙◌, ◌||◌, ap, Bool}
use Rattle.std.specs.Option.{option_or}
use Rattle.page_state.specs.LayoutView.{layout_of}
use Rattle.page_state.specs.Rows.{advance_row}
use Rattle.reference_model.specs.model.Owner.{is_free}
use Rattle.run_list.specs.Runs.{run_map}
use Rattle.ghost_spec.specs.Found.{any_table_with}
use Rattle.ghost_rows.specs.RowsLaid.{used_if}
use Rattle.ghost_rows.proofs.rows.frame_uses.use_tables.Goals as goal

pub returns-clause-map : goal.returns-clause-map
returns-clause-map c = λ f less.
    c.in_ok-use_sorted.ensures.map f less
    ∙ ap (λ (b : Bool). option_or (used_if b c.args.usage) (run_map advance_row c.args.rows.now.runs f))
    (c.in_ok-add_tables.ensures f
    ∙ ap
    (λ xs. is_free xs f
    || any_table_with
    (layout_of c.args.layout.now).depth c.args.tables.now f) c.in_ok-frames.ensures.items)
