use Rattle.std.proofs.Common.{◌∙◌, ◌||◌, ap, refl, Bool, List, Option}
use Rattle.std.specs.Option.{option_or}
use Rattle.page_state.proofs.Common.{same2}
use Rattle.page_state.specs.declared.row.Row.{Row}
use Rattle.page_state.specs.declared.row.Usage.TheVariants.{SharedPool}
use Rattle.page_state.specs.LayoutView.{layout_of}
use Rattle.page_state.specs.Rows.{advance_row}
use Rattle.reference_model.specs.model.Owner.{is_free, is_table_frame}
use Rattle.run_list.specs.Runs.{run_map}
use Rattle.ghost_trees.specs.declared.tree.Table.{Table}
use Rattle.ghost_trees.specs.Trees.{tree_in_lists}
use Rattle.ghost_spec.specs.Found.{any_table_with}
use Rattle.ghost_spec.proofs.FoundTables.{any-is}
use Rattle.ghost_rows.specs.RowsLaid.{used_if}
use Rattle.ghost_rows.proofs.TableFrames.{used_three}
use Rattle.ghost_rows.proofs.rows.frame_uses.use_shared.Goals as goal

pub returns-clause-map : goal.returns-clause-map
returns-clause-map c = λ f less.
    let l = layout_of c.args.layout.now in
    let s = c.args.shared.now in
    let old : Option Row = run_map advance_row c.args.rows.now.runs f in
    let host =
    ap (λ (ts : List Table). any_table_with l.depth ts f) c.as_slice.ensures.value
    ∙ any-is l (tree_in_lists s.host) s.host.tables.items f refl in
    let hyp =
    ap (λ (ts : List Table). any_table_with l.depth ts f) c.as_slice-2.ensures.value
    ∙ any-is l (tree_in_lists s.hyp) s.hyp.tables.items f refl in
    let first =
    c.in_ok-add_tables.ensures f
    ∙ ap (λ xs. is_free xs f || any_table_with l.depth c.as_slice.result.now f) c.new-frames.ensures.items
    ∙ host in
    let both = c.in_ok-add_tables-2.ensures f ∙ same2 (λ (a b : Bool). a || b) first hyp in
    c.in_ok-use_frames.ensures.map f less
    ∙ same2 (λ (b : Bool) (o : Option Row). option_or (used_if b SharedPool) o)
    (ap (λ xs. is_free xs f) c.as_slice-3.ensures.value)
    (c.in_ok-use_sorted.ensures.map f less ∙ ap (λ (b : Bool). option_or (used_if b SharedPool) old) both)
    ∙ used_three (is_free s.free.items f) (is_table_frame l (tree_in_lists s.host) f)
    (is_table_frame l (tree_in_lists s.hyp) f) SharedPool old
