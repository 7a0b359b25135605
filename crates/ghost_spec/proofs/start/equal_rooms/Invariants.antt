use Rattle.std.proofs.Common.{◌≡◌, All, length}
use Rattle.ghost_spec.proofs.start.equal_rooms.Given as goal

abbrev pub invariant-loop : goal.invariant-loop
invariant-loop l = record {
  count : length l.rooms.items ≡ l.counter;
  rooms : All (λ n. n ≡ l.room) l.rooms.items;
}
