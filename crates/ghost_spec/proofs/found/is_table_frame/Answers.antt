use Rattle.std.proofs.Common.{refl, ◌∙◌}
use Rattle.page_state.specs.LayoutView.{layout_of}
use Rattle.ghost_trees.specs.Trees.{tree_in_lists}
use Rattle.ghost_spec.proofs.FoundTables.{any-is}
use Rattle.ghost_spec.proofs.found.is_table_frame.Goals as goal

pub returns : goal.returns
returns c =
    (rw c.as_slice.ensures.value at c.has_table.ensures)
    ∙ any-is (layout_of c.args.layout.now)
    (tree_in_lists c.args.tree.now) c.args.tree.now.tables.items c.args.frame refl
