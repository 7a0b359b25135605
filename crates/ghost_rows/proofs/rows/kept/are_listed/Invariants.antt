use Rattle.std.proofs.Common.{◌<◌, ℕ, length, get_or}
use Rattle.page_state.specs.declared.row.Row.{Row}
use Rattle.run_list.specs.declared.run.Run.{Run}
use Rattle.ghost_rows.specs.ListedRows.{AreNear, IsListedAs}
use Rattle.ghost_rows.proofs.rows.kept.are_listed.Given as goal

abbrev pub invariant-loop-i : goal.invariant-loop-i
invariant-loop-i l = record {
  told : (j : ℕ) (d : Run Row) → j < l.i → IsListedAs l.lists (get_or l.rows j d);
  near : (d : Run Row) → l.i < length l.rows → AreNear (get_or l.rows l.i d).pages.first.0 l.near l.lists;
}
