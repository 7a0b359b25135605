-- The comparison of an audit, and the first difference in its order: the host's map, the
-- hypervisor's, those of the guests by slot, and the owner rows.
use Rattle.std.specs.Prelude.{◌≡◌, ℕ, ◌<◌, All, length}
use Rattle.page_state.specs.declared.entry.Entry.{Entry}
use Rattle.page_state.specs.Rows.{HasPageBelow}
use Rattle.reference_model.specs.model.State.{Contents}
use Rattle.run_list.specs.Runs.{AreInReach}
use Rattle.ghost_spec.specs.declared.lists.GhostLists.{GhostLists}
use Rattle.ghost_trees.specs.KeptTrees.{IsKeptTree}
use Rattle.ghost_judge.specs.declared.disagreement.Disagreement.{Disagreement}
use Rattle.ghost_judge.specs.declared.disagreement.Disagreement.TheVariants.{Map as MapDiffers, Owner as OwnerDiffers}
use Rattle.ghost_judge.specs.declared.disagreement.TreeOf.{TreeOf}
use Rattle.ghost_judge.specs.declared.disagreement.TreeOf.TheVariants.{Host, Hyp, Guest}
use Rattle.ghost_judge.specs.Apart.{IsFirstApart}

-- the maps of the host and of the hypervisor are equal, and those of the guests of slots below one
pub record MapsAgreeBelow (kept walked : Contents) (slot : ℕ) : Type 0 where
  pub host : kept.shared.host.map ≡ walked.shared.host.map
  pub hyp : kept.shared.hyp.map ≡ walked.shared.hyp.map
  pub guests : (v : ℕ) → v < slot → (kept.guest v).tree.map ≡ (walked.guest v).tree.map

-- all maps are equal
pub record MapsAgree (kept walked : Contents) : Type 0 where
  pub host : kept.shared.host.map ≡ walked.shared.host.map
  pub hyp : kept.shared.hyp.map ≡ walked.shared.hyp.map
  pub guests : (v : ℕ) → (kept.guest v).tree.map ≡ (walked.guest v).tree.map

-- all maps and all owner rows are equal
pub record AuditAgrees (kept walked : Contents) : Type 0 where
  pub maps : MapsAgree kept walked
  pub rows : kept.shared.row ≡ walked.shared.row

-- two functions first differ at a number, and the value of each there
pub record DiffersFirstAt {X : Type 0} (kept walked : ℕ → X) (n : ℕ) (x y : X) : Type 0 where
  pub first : IsFirstApart kept walked n
  pub kept_is : x ≡ kept n
  pub walked_is : y ≡ walked n

-- the first difference is one of this tree's map
abbrev pub IsFirstMap : Contents → Contents → TreeOf → ℕ → Entry → Entry → Type 0
IsFirstMap kept walked Host page x y =
    DiffersFirstAt kept.shared.host.map walked.shared.host.map page x y
IsFirstMap kept walked Hyp page x y =
    (kept.shared.host.map ≡ walked.shared.host.map)
    × DiffersFirstAt kept.shared.hyp.map walked.shared.hyp.map page x y
IsFirstMap kept walked (Guest v) page x y =
    MapsAgreeBelow kept walked v
    × DiffersFirstAt (kept.guest v).tree.map (walked.guest v).tree.map page x y

-- the first difference: all that comes before it is equal
abbrev pub IsFirstDifference : Contents → Contents → Disagreement → Type 0
IsFirstDifference kept walked (MapDiffers tree page x y) = IsFirstMap kept walked tree page x y
IsFirstDifference kept walked (OwnerDiffers frame x y) =
    MapsAgree kept walked × DiffersFirstAt kept.shared.row walked.shared.row frame x y
IsFirstDifference kept walked other = ⊥

-- the maps are coarsest lists of runs of small numbers, of 64 guests, and the rows' numbers are
-- small
pub record AreMapsKept (g : GhostLists) : Type 0 where
  pub host : IsKeptTree g.shared.host
  pub hyp : IsKeptTree g.shared.hyp
  pub guests : All (λ x. IsKeptTree x.tree) g.guests.items
  pub count : length g.guests.items ≡ 64
  pub rows : AreInReach HasPageBelow g.shared.rows.runs
