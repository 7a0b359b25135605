use Rattle.std.proofs.Common.{◌≡◌, ◌-◌, ◌≤◌, ◌<◌, ℕ}
use Rattle.page_state.specs.Rows.{advance_row}
use Rattle.run_list.specs.Runs.{value_on}
use Rattle.ghost_rows.specs.ListedRows.{told, AreCarried}
use Rattle.ghost_rows.proofs.rows.kept.are_pieces_listed.Given as goal

abbrev pub invariant-loop-low : goal.invariant-loop-low
invariant-loop-low l = record {
  begun : l.first ≤ l.low;
  within : l.low ≤ l.end;
  told : (f : ℕ) → l.first ≤ f → f < l.low → told l.lists f ≡ value_on advance_row l.run f;
  near : AreCarried l.low l.stands l.lists;
}

abbrev pub decreases-loop-low : goal.decreases-loop-low
decreases-loop-low l = l.end - l.low
