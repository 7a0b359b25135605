use Rattle.std.proofs.Common.{◌≡◌, map, take}
use Rattle.std.specs.Prelude.{false}
use Rattle.ghost_spec.specs.States.{guest_in, AreKeptGuests}
use Rattle.free_judge.specs.Asked.{filled_guest}
use Rattle.free_judge.proofs.bare.bare_guests.Given as goal

abbrev pub invariant-loop-guest : goal.invariant-loop-guest
invariant-loop-guest l = record {
  same : map guest_in l.copies.items
      ≡ map (λ g. filled_guest false l.frames 0 (guest_in g)) (take l.guest-index l.guests);
  kept : AreKeptGuests l.copies.items;
}
