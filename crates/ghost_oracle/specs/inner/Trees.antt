-- What lists of parts keep, whatever their numbers.
use Rattle.std.specs.Global.{Vec}
use Rattle.std.specs.Prelude.{◌≡◌, All, length}
use Rattle.page_state.specs.LayoutView.{layout_of}
use Rattle.hypercalls.specs.declared.parts.Parts.{Parts}
use Rattle.hypercalls.specs.Stands.{parts_layout, state_of}
use Rattle.ghost_spec.specs.declared.lists.GhostLists.{GhostLists}
use Rattle.ghost_spec.specs.declared.parts.GhostGuest.{GhostGuest}
use Rattle.ghost_spec.specs.declared.shared.Shared.{Shared}
use Rattle.ghost_spec.specs.Kept.{IsKeptShared}
use Rattle.ghost_spec.specs.States.{ghost_state}
use Rattle.ghost_spec.specs.Views.{shared_in_lists}
use Rattle.ghost_trees.specs.KeptTrees.{IsKeptTree}
use Rattle.ghost_oracle.specs.Found.{found_state}

-- the coarsest runs of all trees, and a place for each slot, guest, CPU and room
pub record AreTreesKept (g : GhostLists) : Type 0 where
  pub shared : IsKeptShared g.shared
  pub guests : All (λ x. IsKeptTree x.tree) g.guests.items
  pub vms_count : length g.vms.items ≡ 64
  pub guests_count : length g.guests.items ≡ 64
  pub cpus_count : length g.cpus.items ≡ g.layout.config.cpus
  pub guest_rooms_count : length g.rooms.guests.items ≡ 64
  pub cpu_rooms_count : length g.rooms.cpus.items ≡ g.layout.config.cpus

-- lists hold all parts, with this Shared part and these guests: the slots, the CPUs and the rooms
-- as they are
pub record IsFoundWith {A : Type 0} (p : Parts A) (s : Shared) (gs : Vec GhostGuest)
    (g : GhostLists) : Type 0 where
  pub state : ghost_state g ≡ found_state (shared_in_lists s).row (state_of p)
  pub layout : layout_of g.layout ≡ parts_layout p
  pub trees : AreTreesKept g
  pub shared : g.shared ≡ s
  pub guests : g.guests ≡ gs
