use Rattle.std.proofs.Common.{◌≡◌, ◌||◌, ℕ, take}
use Rattle.std.specs.List.{list_any}
use Rattle.page_state.specs.LayoutView.{layout_of}
use Rattle.reference_model.specs.model.Owner.{is_free}
use Rattle.ghost_spec.specs.Found.{is_table_with}
use Rattle.ghost_rows.proofs.rows.frame_uses.add_tables.Given as goal

abbrev pub invariant-loop-table : goal.invariant-loop-table
invariant-loop-table l =
    (f : ℕ)
    → is_free l.frames.items f
    ≡ (is_free l.fn.frames.items f
    || list_any (is_table_with (layout_of l.layout).depth l.tables f) (take l.table-index l.tables))
