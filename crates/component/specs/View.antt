-- The view of a component in contracts, as part of the reference state.
use Rattle.std.specs.Prelude.{◌≡◌, ℕ, ◌≤◌, List, Option, Some, None}
use Rattle.component.specs.declared.Plan.{Plan}
use Rattle.page_state.specs.Trees.{Tree}
use Rattle.maplets.specs.View.{KeptMaplets}
use Rattle.reference_model.specs.declared.changes.MapChange.{MapChange}
use Rattle.reference_model.specs.model.Changes.{edit_of}
use Rattle.table_tree.specs.declared.tree.Tree.{Tree as TableTree}
use Rattle.walk_plan.specs.Hands.{need_in, after_in, back_in}

-- the maplets have the room that a change asks
abbrev pub HasRoomFor : Option MapChange → KeptMaplets → Type 0
HasRoomFor None m = Unit {0}
HasRoomFor (Some c) m = 2 ≤ m.room

-- a plan is for a change, for which the maplets have room
pub record IsPlanFor {A : Type 0} (c : Option MapChange) (m : KeptMaplets)
    (p : Plan A) : Type 0 where
  pub change : p.change ≡ c
  pub ready : HasRoomFor c m

-- the tables that a change of a tree needs
abbrev pub need_for : {A : Type 0} → TableTree A → Option MapChange → ℕ
need_for t c = need_in t (edit_of c)

-- the tree after the change; the new tables get the lowest of these frames
abbrev pub tree_after : {A : Type 0} → TableTree A → Option MapChange → List ℕ → Tree
tree_after t c fs = after_in t (edit_of c) fs

-- the frames that come back
abbrev pub back_from : {A : Type 0} → TableTree A → Option MapChange → List ℕ
back_from t c = back_in t (edit_of c)
