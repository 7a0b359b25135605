-- The results of parts of an audit.
use Rattle.std.specs.Prelude.{◌≡◌, ℕ, ◌<◌, List, Option, map, get_or, MatchOption}
use Rattle.page_state.specs.declared.row.Row.{Row}
use Rattle.page_state.specs.Map.{Map}
use Rattle.page_state.specs.Runs.{map_of}
use Rattle.reference_model.specs.model.State.{Guest as GuestOfState, Shared, no_guest}
use Rattle.ghost_spec.specs.declared.parts.GhostGuest.{GhostGuest}
use Rattle.ghost_spec.specs.States.{guest_in}
use Rattle.ghost_trees.specs.declared.tree.Tree.{Tree}
use Rattle.ghost_judge.specs.declared.disagreement.Disagreement.{Disagreement}
use Rattle.ghost_judge.specs.declared.disagreement.Disagreement.TheVariants.{Map as MapDiffers, Owner as OwnerDiffers, SharedPart, GuestPart}
use Rattle.ghost_judge.specs.declared.disagreement.PartDifference.{PartDifference}
use Rattle.ghost_judge.specs.declared.disagreement.TreeOf.{TreeOf}
use Rattle.ghost_judge.specs.declared.disagreement.TreeOf.TheVariants.{Guest}
use Rattle.ghost_judge.specs.Apart.{IsFirstApart}
use Rattle.ghost_judge.specs.PartDifferences.{IsFirstOfGuest, IsFirstOfShared}

-- the first difference of two maps, as one of a tree
abbrev pub IsMapDifference : TreeOf → Map → Map → Disagreement → Type 0
IsMapDifference tree m n d =
    (page : ℕ) × (d ≡ MapDiffers tree page (m page) (n page)) × IsFirstApart m n page

-- that of the rows
abbrev pub IsRowDifference : (ℕ → Row) → (ℕ → Row) → Disagreement → Type 0
IsRowDifference m n d =
    (frame : ℕ) × (d ≡ OwnerDiffers frame (m frame) (n frame)) × IsFirstApart m n frame

-- the map of a guest in a list
abbrev pub guest_map : List GhostGuest → ℕ → Map
guest_map gs v = (get_or (map guest_in gs) v no_guest).tree.map

-- the first guest whose maps differ
abbrev pub IsGuestDifference : List GhostGuest → List GhostGuest → Disagreement → Type 0
IsGuestDifference gs hs d =
    (v : ℕ)
    × ((u : ℕ) → u < v → guest_map gs u ≡ guest_map hs u)
    × IsMapDifference (Guest v) (guest_map gs v) (guest_map hs v) d

-- the first difference of two Shared parts, maps and rows apart
abbrev pub IsSharedPart : Shared → Shared → Disagreement → Type 0
IsSharedPart post spec d =
    (part : PartDifference) × (d ≡ SharedPart part) × IsFirstOfShared post spec part

-- that of two guests of a slot, maps apart
abbrev pub IsGuestPart : ℕ → GuestOfState → GuestOfState → Disagreement → Type 0
IsGuestPart slot post spec d =
    (part : PartDifference) × (d ≡ GuestPart slot part) × IsFirstOfGuest slot post spec part

-- the finding, or that two things are equal
abbrev pub IsFound : Type 0 → (Disagreement → Type 0) → Option Disagreement → Type 0
IsFound alike differ o = MatchOption o alike differ

-- the first difference of two trees' maps, or that they are equal
abbrev pub IsFoundInTrees : TreeOf → Tree → Tree → Option Disagreement → Type 0
IsFoundInTrees tree kept walked o =
    IsFound (map_of kept.runs.items ≡ map_of walked.runs.items)
    (IsMapDifference tree (map_of kept.runs.items) (map_of walked.runs.items)) o
