use Rattle.std.proofs.Common.{◌≡◌, drop, None}
use Rattle.owner_table.specs.Filling.{filled_all, IsFilling}
use Rattle.owner_table.specs.Room.{frame_limit}
use Rattle.owner_table.specs.Rows.{row_at}
use Rattle.owner_table.proofs.rows_of.Given as goal

abbrev pub invariant-loop-region : goal.invariant-loop-region
invariant-loop-region l = record {
  filling : IsFilling l.rows.runs l.rows.room frame_limit (drop l.region-index l.regions);
  map : filled_all (drop l.region-index l.regions) (row_at l.rows.runs) ≡ filled_all l.regions (λ _. None);
}
