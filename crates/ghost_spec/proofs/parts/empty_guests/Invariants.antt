use Rattle.std.proofs.Common.{◌≡◌, All, length}
use Rattle.reference_model.specs.model.State.{no_guest}
use Rattle.ghost_spec.specs.States.{guest_in, AreKeptGuests}
use Rattle.ghost_spec.proofs.parts.empty_guests.Given as goal

abbrev pub invariant-loop : goal.invariant-loop
invariant-loop l = record {
  count : length l.guests.items ≡ l.counter;
  empty : All (λ g. guest_in g ≡ no_guest) l.guests.items;
  kept : AreKeptGuests l.guests.items;
}
