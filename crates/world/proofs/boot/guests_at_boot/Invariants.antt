use Rattle.std.proofs.Common.{◌≡◌, vec_len, All}
use Rattle.world.specs.Boots.{IsVacant}
use Rattle.world.proofs.boot.guests_at_boot.Given as goal

abbrev pub invariant-loop-made : goal.invariant-loop-made
invariant-loop-made g l = record {
  count : vec_len l.guests ≡ l._made;
  vacant : All (IsVacant l.fn.geometry l.fn.calls) l.guests.items;
}
