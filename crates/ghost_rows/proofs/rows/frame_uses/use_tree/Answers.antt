use Rattle.std.proofs.Common.{◌∙◌, ap, refl, Bool}
use Rattle.std.specs.Option.{option_or}
use Rattle.page_state.specs.LayoutView.{layout_of}
use Rattle.page_state.specs.Rows.{advance_row}
use Rattle.run_list.specs.Runs.{run_map}
use Rattle.ghost_trees.specs.Trees.{tree_in_lists}
use Rattle.ghost_spec.proofs.FoundTables.{any-is}
use Rattle.ghost_rows.specs.RowsLaid.{used_if}
use Rattle.ghost_rows.proofs.rows.frame_uses.use_tree.Goals as goal

pub returns-clause-map : goal.returns-clause-map
returns-clause-map c = λ f less.
    (rw c.as_slice.ensures.value at (c.in_ok-use_tables.ensures.map f less))
    ∙ ap (λ (b : Bool). option_or (used_if b c.args.usage) (run_map advance_row c.args.rows.now.runs f))
    (any-is (layout_of c.args.layout.now) (tree_in_lists c.args.tree.now) c.args.tree.now.tables.items f refl)
