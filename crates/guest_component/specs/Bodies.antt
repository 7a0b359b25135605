-- The view in contracts of a guest that isn't Empty, as part of the reference state.
use Rattle.std.specs.Prelude.{◌≡◌, Option, Some, None}
use Rattle.std.specs.Coded.{Unit-prop}
use Rattle.std.proofs.Props.{props}
use Rattle.page_state.specs.declared.layout.Geometry.{Geometry}
use Rattle.reference_model.specs.model.State.{Guest, Phase, live, dying}
use Rattle.table_tree.specs.View.{tree_of}
use Rattle.guest_component.specs.declared.body.Body.{Body}
use Rattle.guest_component.specs.declared.body.Phase.{Phase as BodyPhase}
use Rattle.guest_component.specs.declared.body.Phase.TheVariants.{Live, Dying}

-- its phase
abbrev pub phase_of : BodyPhase → Phase
phase_of Live = live
phase_of Dying = dying

-- all of it
abbrev pub body_of : {A : Type 0} → Body A → Guest
body_of b =
    record {
      phase = phase_of b.phase;
      generation = b.generation;
      kind = b.kind;
      tree = tree_of b.map.tree;
      free = b.pool.frames;
    }

-- its tree, if there is one, has the geometry
abbrev pub IsOfGeometry : {A : Type 0} → Geometry → Option (Body A) → Type 0
IsOfGeometry geometry None = Unit {0}
IsOfGeometry geometry (Some b) = b.map.tree.geometry ≡ geometry

pub IsOfGeometry-prop : {A : Type 0} (geometry : Geometry) (o : Option (Body A))
    → IsProp (IsOfGeometry geometry o)
IsOfGeometry-prop geometry None = Unit-prop
IsOfGeometry-prop geometry (Some b) = hlevel props
