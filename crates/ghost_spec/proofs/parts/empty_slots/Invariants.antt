use Rattle.std.proofs.Common.{◌≡◌, All, length}
use Rattle.reference_model.specs.model.State.{no_slot}
use Rattle.ghost_spec.specs.States.{slot_in}
use Rattle.ghost_spec.proofs.parts.empty_slots.Given as goal

abbrev pub invariant-loop : goal.invariant-loop
invariant-loop l = record {
  count : length l.slots.items ≡ l.counter;
  empty : All (λ s. slot_in s ≡ no_slot 1) l.slots.items;
}
