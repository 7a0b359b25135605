use Rattle.std.proofs.Common.{◌≡◌, map, take}
use Rattle.ghost_spec.specs.States.{guest_in, AreKeptGuests}
use Rattle.ghost_spec.proofs.parts.copied_guests.Given as goal

abbrev pub invariant-loop-guest : goal.invariant-loop-guest
invariant-loop-guest l = record {
  same : map guest_in l.copies.items ≡ map guest_in (take l.guest-index l.guests);
  kept : AreKeptGuests l.copies.items;
}
