-- The tables that a change of a guest needs, and those that are ready for it.
use Rattle.std.specs.Prelude.{◌≡◌, Option, Some, None}
use Rattle.component.specs.declared.Plan.{Plan}
use Rattle.page_state.specs.declared.layout.Geometry.{Geometry}
use Rattle.page_state.specs.Geometries.{levels_below}
use Rattle.reference_model.specs.declared.changes.Changes.{Changes}
use Rattle.reference_model.specs.declared.changes.GuestChange.{GuestChange}
use Rattle.reference_model.specs.declared.changes.GuestChange.TheVariants.{Install}
use Rattle.reference_model.specs.declared.changes.MapChange.{MapChange}
use Rattle.reference_model.specs.model.Changes.{guest_by}
use Rattle.reference_model.specs.model.State.{Guest, no_guest}
use Rattle.guest_component.specs.declared.body.Body.{Body}
use Rattle.guest_component.specs.declared.guest.Guest.{Guest as GuestComponent}
use Rattle.guest_component.specs.declared.guest.GuestPlan.{GuestPlan}
use Rattle.guest_component.specs.Bodies.{body_of}
use Rattle.guest_component.specs.Changing.{GuestCanChange}
use Rattle.guest_component.specs.InHand.{IsInHand, body_with}
use Rattle.guest_component.specs.View.{guest_of, guest_in, guest_depth}

-- the guest that an install makes is there
abbrev pub IsMadeFor : {A : Type 0} → Geometry → GuestChange → Option (Body A) → Type 0
IsMadeFor geometry (Install kind generation hand) None = ⊥
IsMadeFor geometry (Install kind generation hand) (Some b) =
    (body_of b ≡ guest_by (levels_below geometry) (Install kind generation hand) no_guest)
    × (b.map.tree.geometry ≡ geometry)
IsMadeFor geometry other o = Unit {0}

-- there is a plan of the map's change if and only if there is a guest, and it is for the guest's
-- present tree
abbrev pub IsMapInHand : {A : Type 0} → Option (Body A) → Option (Plan A) → Type 0
IsMapInHand None None = Unit {0}
IsMapInHand (Some b) (Some p) = IsInHand p.change b p
IsMapInHand o p = ⊥

-- it is one of this change, which an Empty guest's map hasn't
abbrev pub PlansFor : {A : Type 0} → Option MapChange → Option (Plan A) → Type 0
PlansFor c None = Unit {0}
PlansFor c (Some p) = p.change ≡ c

-- the guest with the frames that a plan has in hand given back
abbrev pub map_with : {A : Type 0} → Option (Plan A) → Option (Body A) → Guest
map_with (Some p) (Some b) = body_with p b
map_with p o = guest_in o

abbrev pub guest_with : {A : Type 0} → GuestPlan A → GuestComponent A → Guest
guest_with p g = map_with p.map g.body

-- a plan of the map's change was made of guest `g`, which is now `h`: with the frames in hand given
-- back it is as it was
pub record IsMapPlanned {A : Type 0} (c : Option MapChange) (g h : GuestComponent A)
    (p : Option (Plan A)) : Type 0 where
  pub in_hand : IsMapInHand h.body p
  pub planned : PlansFor c p
  pub whole : map_with p h.body ≡ guest_of g

-- the changes can be made of the guest, and all that they need is in hand
pub record IsReadyFor {A : Type 0} (h : Changes) (g : GuestComponent A)
    (p : GuestPlan A) : Type 0 where
  pub fits : GuestCanChange (guest_depth g) h (guest_with p g)
  pub map : IsMapInHand g.body p.map
  pub planned : PlansFor h.guest p.map
  pub made : IsMadeFor g.geometry h.part p.made
