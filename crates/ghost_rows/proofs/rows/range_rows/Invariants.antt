use Rattle.std.proofs.Common.{◌≡◌, ◌+◌, ◌-◌, ◌≤◌, ℕ, None, Some}
use Rattle.std.specs.Prelude.{if◌then◌else◌}
use Rattle.page_state.specs.Map.{is_within}
use Rattle.page_state.specs.Rows.{advance_row, HasPageBelow}
use Rattle.run_list.specs.Runs.{run_map, EndBefore}
use Rattle.run_list.specs.View.{IsKept}
use Rattle.ghost_rows.specs.ListedRows.{told, AreCarried}
use Rattle.ghost_rows.proofs.rows.range_rows.Given as goal

abbrev pub invariant-loop-low : goal.invariant-loop-low
invariant-loop-low l = record {
  begun : l.fn.pages.first.0 ≤ l.low;
  within : l.low ≤ l.end;
  map : (f : ℕ)
      → run_map advance_row l.rows.items f
      ≡ (if is_within l.fn.pages.first.0 (l.low - l.fn.pages.first.0) f then Some (told l.lists f) else None);
  kept : IsKept advance_row HasPageBelow l.rows.items;
  behind : EndBefore (l.low + 1) l.rows.items;
  near : AreCarried l.low l.stands l.lists;
}

abbrev pub decreases-loop-low : goal.decreases-loop-low
decreases-loop-low l = l.end - l.low
