use Rattle.state_changes.proofs.Together.{adds_then}
use Rattle.state_changes.proofs.told.add_maps.Goals as goal

pub returns : goal.returns
returns c =
    adds_then _ _ _ _ _ c.in_ok-add_entries.ensures
    (adds_then _ _ _ _ _ c.in_ok-add_entries-2.ensures
    (adds_then _ _ _ _ _ c.in_ok-add_guest_maps.ensures c.in_ok-add_rows.ensures))
