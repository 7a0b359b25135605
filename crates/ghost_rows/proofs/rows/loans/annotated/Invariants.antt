use Rattle.std.proofs.Common.{◌≡◌, ◌+◌, ◌<◌, ◌≤◌, ℕ, get_or, length, take}
use Rattle.page_state.specs.declared.entry.Run.{Run}
use Rattle.page_state.specs.Rows.{advance_row, HasPageBelow}
use Rattle.page_state.specs.Runs.{map_of}
use Rattle.run_list.specs.Runs.{run_map, EndBefore}
use Rattle.run_list.specs.View.{IsKept}
use Rattle.ghost_rows.specs.RowsLaid.{annotated_row}
use Rattle.ghost_rows.proofs.rows.loans.annotated.Given as goal

abbrev pub invariant-loop-i : goal.invariant-loop-i
invariant-loop-i l = record {
  map : (f : ℕ) → run_map advance_row l.rows.items f ≡ annotated_row (map_of (take l.i l.runs) f);
  kept : IsKept advance_row HasPageBelow l.rows.items;
  behind : EndBefore (l.high + 1) l.rows.items;
  order : (d : Run) → l.i < length l.runs → l.high ≤ (get_or l.runs l.i d).pages.first.0;
}
