use Rattle.std.proofs.Common.{◌≡◌, ℕ, All, map, get_or}
use Rattle.reference_model.specs.model.State.{no_slot}
use Rattle.ghost_spec.specs.States.{slot_in}
use Rattle.ghost_spec.proofs.Starts.{all-same}
use Rattle.ghost_oracle.proofs.Scratch.{if_ok}
use Rattle.ghost_oracle.proofs.record.slots_given.Goals as goal

pub returns-in-None-clause-slots : goal.returns-in-None-clause-slots
returns-in-None-clause-slots c =
    rw c.in-None.is
    (if_ok (λ v. All (λ s. slot_in s ≡ no_slot 1) v.items)
    (λ v. (slot : ℕ) → get_or (map slot_in v.items) slot (no_slot 1) ≡ no_slot 1) c.empty_slots.result
    (λ v h. all-same slot_in (no_slot 1) v.items h)
    c.empty_slots.ensures.empty)
