-- Conditions under which changes of a guest need no memory.
use Rattle.std.specs.Prelude.{ℕ, ◌≤◌, Option, Some, None}
use Rattle.component.specs.View.{HasRoomFor}
use Rattle.reference_model.specs.declared.changes.Changes.{Changes}
use Rattle.reference_model.specs.declared.changes.GuestChange.{GuestChange}
use Rattle.reference_model.specs.declared.changes.GuestChange.TheVariants.{Install}
use Rattle.reference_model.specs.declared.changes.MapChange.{MapChange}
use Rattle.reference_model.specs.model.Step.{guest_need}
use Rattle.table_tree.specs.View.{spares_of}
use Rattle.guest_component.specs.declared.body.Body.{Body}
use Rattle.guest_component.specs.declared.guest.Guest.{Guest as GuestComponent}
use Rattle.guest_component.specs.View.{guest_of, guest_depth}

-- the tables that the change of a guest's map needs
abbrev pub need_of : {A : Type 0} → GuestComponent A → Changes → ℕ
need_of g h = guest_need (guest_depth g) h (guest_of g)

-- a guest's tree has n spares or more, and its maplets the room that a change of its map needs
abbrev pub HasReadyMap : {A : Type 0} → ℕ → Option MapChange → Option (Body A) → Type 0
HasReadyMap n c None = Unit {0}
HasReadyMap n c (Some b) = (n ≤ spares_of b.map.tree) × HasRoomFor c b.map.maplets

-- the change makes no guest
abbrev pub MakesNone : GuestChange → Type 0
MakesNone (Install kind generation hand) = ⊥
MakesNone other = Unit {0}

-- memory for the changes is there already: they make no guest, and the tree has spares for them and
-- the maplets room
pub record WantsNoMemory {A : Type 0} (h : Changes) (g : GuestComponent A) : Type 0 where
  pub made : MakesNone h.part
  pub map : HasReadyMap (need_of g h) h.guest g.body
