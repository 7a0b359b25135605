use Rattle.std.proofs.Common.{◌≡◌, ◌+◌, ◌≤◌, drop}
use Rattle.page_state.specs.LayoutView.{layout_of}
use Rattle.ghost_spec.proofs.TableCounts.{standing}
use Rattle.ghost_spec.proofs.guest_rules.table_count.Given as goal

abbrev pub invariant-loop-i : goal.invariant-loop-i
invariant-loop-i l = record {
  counted : l.count + standing (layout_of l.layout).depth (drop l.i l.tables)
      ≡ standing (layout_of l.layout).depth l.tables;
  few : l.count ≤ l.i;
}
