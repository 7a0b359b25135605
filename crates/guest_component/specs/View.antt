-- The view of a guest in contracts, as part of the reference state.
use Rattle.std.specs.Prelude.{ℕ, List, [], Option, Some, None}
use Rattle.page_state.specs.declared.entry.Run.{Run}
use Rattle.page_state.specs.Geometries.{levels_below}
use Rattle.reference_model.specs.model.State.{Guest, no_guest}
use Rattle.table_tree.specs.View.{spares_of}
use Rattle.guest_component.specs.declared.body.Body.{Body}
use Rattle.guest_component.specs.declared.guest.Guest.{Guest as GuestComponent}
use Rattle.guest_component.specs.Bodies.{body_of}

-- the guest of a body; an Empty one if there is none
abbrev pub guest_in : {A : Type 0} → Option (Body A) → Guest
guest_in None = no_guest
guest_in (Some b) = body_of b

-- the guest
abbrev pub guest_of : {A : Type 0} → GuestComponent A → Guest
guest_of g = guest_in g.body

-- the levels below its root
abbrev pub guest_depth : {A : Type 0} → GuestComponent A → ℕ
guest_depth g = levels_below g.geometry

-- the runs of its maplets; an Empty guest has none
abbrev pub runs_of : {A : Type 0} → Option (Body A) → List Run
runs_of None = []
runs_of (Some b) = b.map.maplets.runs

-- the spares of its tree
abbrev pub guest_spares : {A : Type 0} → Option (Body A) → ℕ
guest_spares None = 0
guest_spares (Some b) = spares_of b.map.tree
