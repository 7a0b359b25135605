use Rattle.std.proofs.Common.{◌≡◌, drop}
use Rattle.std.specs.List.{list_any}
use Rattle.page_state.specs.LayoutView.{layout_of}
use Rattle.ghost_spec.specs.Found.{any_table_with, is_table_with}
use Rattle.ghost_spec.proofs.found.has_table.Given as goal

abbrev pub invariant-loop-table : goal.invariant-loop-table
invariant-loop-table l =
    list_any (is_table_with (layout_of l.layout).depth l.tables l.frame) (drop l.table-index l.tables)
    ≡ any_table_with (layout_of l.layout).depth l.tables l.frame
