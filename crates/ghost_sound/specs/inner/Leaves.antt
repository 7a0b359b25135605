-- Leaves that count, and the runs of all trees.
use Rattle.std.specs.Prelude.{◌≡◌, ℕ, zero, suc, ◌+◌, ◌-◌, ◌<◌, ◌≤◌, Bool, true, false, List, [], All, length, get_or, map, Option, Some, None, if◌then◌else◌}
use Rattle.descriptor.specs.declared.State.{State}
use Rattle.descriptor.specs.declared.State.TheVariants.{Owned, SharedOwned, SharedBorrowed}
use Rattle.page_state.specs.declared.entry.Entry.{Entry}
use Rattle.page_state.specs.declared.entry.Entry.TheVariants.{Leaf as LeafEntry}
use Rattle.page_state.specs.declared.entry.Run.{Run}
use Rattle.page_state.specs.declared.entry.Target.{Target}
use Rattle.page_state.specs.declared.entry.Target.TheVariants.{Leaf}
use Rattle.page_state.specs.Runs.{run_end}
use Rattle.reference_model.specs.claims.Sound.{tree_at}
use Rattle.reference_model.specs.model.State.{Contents}
use Rattle.ghost_spec.specs.declared.lists.GhostLists.{GhostLists}
use Rattle.ghost_spec.specs.declared.parts.GhostGuest.{GhostGuest}
use Rattle.ghost_trees.specs.KeptTrees.{IsKeptTree}
use Rattle.ghost_sound.specs.declared.leaves.Side.{Side}
use Rattle.ghost_sound.specs.declared.leaves.Side.TheVariants.{Owns, Borrows, Shares}

-- leaves in a state count
abbrev pub counts : Side → State → Bool
counts Owns Owned = true
counts Owns SharedOwned = true
counts Owns SharedBorrowed = false
counts Borrows Owned = false
counts Borrows SharedOwned = false
counts Borrows SharedBorrowed = true
counts Shares Owned = false
counts Shares SharedOwned = true
counts Shares SharedBorrowed = false

-- an entry is a leaf of the frame that counts
abbrev pub HasLeaf : Side → ℕ → Entry → Type 0
HasLeaf side f (LeafEntry frame prot kind state) = (frame.0 ≡ f) × (counts side state ≡ true)
HasLeaf side f other = ⊥

-- the entry of a page of a tree is one
abbrev pub Has : Side → Contents → ℕ → ℕ → ℕ → Type 0
Has side s tree page f = HasLeaf side f ((tree_at s tree).map page)

-- the first frame of a target, if its leaves count
abbrev pub target_frame : Side → Target → Option ℕ
target_frame side (Leaf frame prot kind state) = if counts side state then Some frame.0 else None
target_frame side other = None

-- that of a run
abbrev pub first_frame : Side → Run → Option ℕ
first_frame side r = target_frame side r.target

-- a run maps the frame at the page, by a leaf that counts
pub record IsOn (side : Side) (r : Run) (page f : ℕ) : Type 0 where
  pub start : ℕ
  pub starts : first_frame side r ≡ Some start
  pub from : r.pages.first.0 ≤ page
  pub below : page < run_end r
  pub frame : start + (page - r.pages.first.0) ≡ f

-- the runs of a guest; no runs past the list's end
abbrev pub guest_runs : List GhostGuest → ℕ → List Run
guest_runs gs v = get_or (map (λ g. g.tree.runs.items) gs) v []

-- the runs of the tree of a number
abbrev pub runs_in : GhostLists → ℕ → List Run
runs_in g zero = g.shared.host.runs.items
runs_in g (suc zero) = g.shared.hyp.runs.items
runs_in g (suc (suc v)) = guest_runs g.guests.items v

-- all trees are kept
pub record HasKeptTrees (g : GhostLists) : Type 0 where
  pub host : IsKeptTree g.shared.host
  pub hyp : IsKeptTree g.shared.hyp
  pub guests : All (λ x. IsKeptTree x.tree) g.guests.items
  pub count : length g.guests.items ≡ 64
