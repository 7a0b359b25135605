use Rattle.state_changes.proofs.Together.{adds_then}
use Rattle.state_changes.proofs.told.add_rest.Goals as goal

pub returns : goal.returns
returns c =
    adds_then _ _ _ _ _ c.in_ok-add_count.ensures
    (adds_then _ _ _ _ _ c.in_ok-add_guests.ensures
    (adds_then _ _ _ _ _ c.in_ok-add_slots.ensures c.in_ok-add_own.ensures))
