-- The changes of lists.
use Rattle.std.specs.Prelude.{ℕ, List, get_or, map}
use Rattle.ghost_spec.specs.declared.parts.GhostGuest.{GhostGuest}
use Rattle.ghost_spec.specs.declared.parts.GhostSlot.{GhostSlot}
use Rattle.ghost_spec.specs.States.{guest_in, slot_in}
use Rattle.ghost_trees.specs.declared.tree.Tree.{Tree}
use Rattle.page_state.specs.Runs.{map_of}
use Rattle.reference_model.specs.model.State.{Guest, Slot, no_guest, no_slot}
use Rattle.state_changes.specs.declared.maps.Label.{Label}
use Rattle.state_changes.specs.Changed.{ReportsEntries, ReportsGuest, ReportsSlot, guest_name}
use Rattle.state_changes.specs.Labels.{text_of_label}
use Rattle.state_changes.specs.Together.{Each}

-- a guest of a list, and an Empty one past its end
abbrev pub guest_of : List GhostGuest → ℕ → Guest
guest_of gs v = get_or (map guest_in gs) v no_guest

-- a VM slot of a list, and an Empty one past its end
abbrev pub slot_of : List GhostSlot → ℕ → Slot
slot_of ss v = get_or (map slot_in ss) v (no_slot 1)

-- the map of a tree
abbrev pub ReportsTree : Label → Tree → Tree → List ℕ → Type 0
ReportsTree label before after =
    ReportsEntries (text_of_label label) (map_of before.runs.items) (map_of after.runs.items)

-- the maps of all guests, the guests, and the VM slots
abbrev pub ReportsGuestMaps : List GhostGuest → List GhostGuest → List ℕ → Type 0
ReportsGuestMaps before after =
    Each 64
    (λ v. ReportsEntries (guest_name v) (guest_of before v).tree.map (guest_of after v).tree.map)

abbrev pub ReportsGuests : List GhostGuest → List GhostGuest → List ℕ → Type 0
ReportsGuests before after = Each 64 (λ v. ReportsGuest (guest_of before v) (guest_of after v) v)

abbrev pub ReportsSlots : List GhostSlot → List GhostSlot → List ℕ → Type 0
ReportsSlots before after = Each 64 (λ v. ReportsSlot (slot_of before v) (slot_of after v) v)
