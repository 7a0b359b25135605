-- The state beside the trees.
use Rattle.std.specs.Prelude.{◌≡◌, ℕ, List, Option, Some, None, IfSome, All}
use Rattle.hyp_pool.specs.Pools.{StoredFrames}
use Rattle.maplets.specs.View.{KeptMaplets}
use Rattle.page_state.specs.declared.layout.Geometry.{Geometry}
use Rattle.call_table.specs.declared.step.VmKind.{VmKind}
use Rattle.page_state.specs.Geometries.{levels_below}
use Rattle.guest_component.specs.declared.body.Body.{Body}
use Rattle.guest_component.specs.declared.body.Phase.{Phase}
use Rattle.part_types.specs.declared.parts.GuestPart.{GuestPart}
use Rattle.part_types.specs.Logs.{StoredCalls}
use Rattle.ghost_oracle.specs.declared.raw.RawGuest.{RawGuest}

-- what a guest has beside its tree
pub record GuestBeside : Type 0 where
  pub phase : Phase
  pub generation : ℕ
  pub kind : VmKind
  pub maplets : KeptMaplets
  pub pool : StoredFrames

abbrev pub body_beside : {A : Type 0} → Body A → GuestBeside
body_beside b =
    record {
      phase = b.phase;
      generation = b.generation;
      kind = b.kind;
      maplets = b.map.maplets;
      pool = b.pool;
    }

abbrev pub raw_beside : {A : Type 0} → RawGuest A → GuestBeside
raw_beside r =
    record {
      phase = r.phase;
      generation = r.generation;
      kind = r.kind;
      maplets = r.map.maplets;
      pool = r.pool;
    }

-- of a guest; an Empty one has nothing
abbrev pub held_beside : {A : Type 0} → Option (Body A) → Option GuestBeside
held_beside None = None
held_beside (Some b) = Some (body_beside b)

abbrev pub taken_beside : {A : Type 0} → Option (RawGuest A) → Option GuestBeside
taken_beside None = None
taken_beside (Some r) = Some (raw_beside r)

-- one slot: the state of its guest other than trees, and its log
pub record SlotBeside : Type 0 where
  pub guest : Option GuestBeside
  pub log : StoredCalls

abbrev pub slot_guest : {A : Type 0} → GuestPart A → Option (RawGuest A) → Option GuestBeside
slot_guest g None = held_beside g.guest.body
slot_guest g (Some r) = Some (raw_beside r)

abbrev pub slot_beside : {A : Type 0} → GuestPart A → Option (RawGuest A) → SlotBeside
slot_beside g r = record { guest = slot_guest g r; log = g.log }

-- the trees of a slot have as many levels as those of a geometry
abbrev pub IsSlotOf : {A : Type 0} → Geometry → GuestPart A → Option (RawGuest A) → Type 0
IsSlotOf geometry g r =
    (levels_below g.guest.geometry ≡ levels_below geometry)
    × IfSome r (λ x. levels_below x.map.tree.geometry ≡ levels_below geometry)

-- so are those of all slots
abbrev pub AreSlotsOf : {A : Type 0}
    → Geometry
    → List (GuestPart A)
    → List (Option (RawGuest A))
    → Type 0
AreSlotsOf geometry guests poked =
    All (λ g. levels_below g.guest.geometry ≡ levels_below geometry) guests
    × All (λ r. IfSome r (λ x. levels_below x.map.tree.geometry ≡ levels_below geometry)) poked
