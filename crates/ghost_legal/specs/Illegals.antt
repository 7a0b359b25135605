-- Why a state isn't legal: the fault, and that no earlier fault is there.
use Rattle.std.specs.Prelude.{◌≡◌, ℕ, ◌<◌, true, List, ◌∷◌, get_or, All, Contains, IsPermutation}
use Rattle.coarse_trees.specs.Coarsest.{IsCoarsest}
use Rattle.page_state.specs.declared.entry.Entry.{Entry}
use Rattle.page_state.specs.declared.entry.Entry.TheVariants.{Unmapped}
use Rattle.page_state.specs.Layouts.{Layout, hyp_page}
use Rattle.page_state.specs.LayoutView.{layout_of}
use Rattle.page_state.specs.Regions.{is_in_range}
use Rattle.reference_model.specs.help.Conditions.{SlotsFit}
use Rattle.reference_model.specs.claims.Sound.{tree_at}
use Rattle.freedoms.specs.AnyTrees.{AreFramesLegal}
use Rattle.ghost_trees.specs.Trees.{tree_in_lists}
use Rattle.ghost_spec.specs.declared.lists.GhostLists.{GhostLists}
use Rattle.ghost_spec.specs.declared.parts.GhostGuest.{GhostGuest}
use Rattle.ghost_spec.specs.States.{contents_in}
use Rattle.ghost_coarse.specs.Misfits.{AreInside, IsMisfit, IsOutside}
use Rattle.ghost_slots.specs.Faults.{IsSlotFault}
use Rattle.ghost_legal.specs.declared.finding.Facts.{Facts}
use Rattle.ghost_legal.specs.declared.finding.Holder.{Holder}
use Rattle.ghost_legal.specs.declared.finding.Illegal.{Illegal}
use Rattle.ghost_legal.specs.declared.finding.Illegal.TheVariants.{Slots, Guest, Outside, GuestPage, HypPage, FarFrame, HeldTwice, Frame, Tree}
use Rattle.ghost_legal.specs.declared.held.Held.{Held}
use Rattle.ghost_legal.specs.AllHeld.{GuestPagesFit, IsGuestPage, IsHypBelow}
use Rattle.ghost_legal.specs.Facts.{IsCondition}
use Rattle.ghost_legal.specs.Frames.{facts_in, IsHeldList, IsSmallHeld}
use Rattle.ghost_legal.specs.Listed.{all_held_in}
use Rattle.ghost_legal.specs.Pages.{HaveGoodRuns, IsWhole}

-- slots agree, and each guest is Empty and has nothing, or has a root
pub record FitsParts (g : GhostLists) : Type 0 where
  pub slots : SlotsFit (contents_in g)
  pub guests : All (IsWhole (layout_of g.layout).depth) g.guests.items

-- each table is at a block of its tree
pub record FitsTables (g : GhostLists) : Type 0 where
  pub parts : FitsParts g
  pub host : AreInside (layout_of g.layout).depth g.shared.host.tables.items
  pub hyp : AreInside (layout_of g.layout).depth g.shared.hyp.tables.items
  pub guests : All (λ x. AreInside (layout_of g.layout).depth x.tree.tables.items) g.guests.items

-- the tables of each guest are at blocks of its tree
abbrev pub AreGuestTablesInside : GhostLists → Type 0
AreGuestTablesInside g =
    All (λ x. AreInside (layout_of g.layout).depth x.tree.tables.items) g.guests.items

-- the runs of guests map leaves of memory, below the input pages
abbrev pub HaveFittingPages : GhostLists → Type 0
HaveFittingPages g =
    HaveGoodRuns g.guests.items × GuestPagesFit (layout_of g.layout) (contents_in g)

-- the trees of guests are the coarsest of their maps
abbrev pub AreGuestsCoarsest : GhostLists → Type 0
AreGuestsCoarsest g =
    All (λ x. IsCoarsest (layout_of g.layout).depth (tree_in_lists x.tree)) g.guests.items

-- guests' pages are leaves of memory, and the hypervisor maps nothing below the pages of frames
pub record FitsPages (g : GhostLists) : Type 0 where
  pub tables : FitsTables g
  pub runs : HaveGoodRuns g.guests.items
  pub guests : GuestPagesFit (layout_of g.layout) (contents_in g)
  pub hyp : IsHypBelow (contents_in g)

-- and each frame is in its one condition
pub record FitsFrames (g : GhostLists) : Type 0 where
  pub pages : FitsPages g
  pub frames : AreFramesLegal (layout_of g.layout) (contents_in g)

-- the guest of one of the 64 slots is Empty and has something, or isn't and has no root
pub record IsGuestFault (g : GhostLists) (v : ℕ) : Type 0 where
  pub slot : v < 64
  pub guest : GhostGuest
  pub is : guest ≡ get_or g.guests.items v guest
  pub not_whole : IsWhole (layout_of g.layout).depth guest → ⊥

-- a guest's page is mapped, and no leaf of memory, or past the input pages
abbrev pub IsPageFault : Layout → ℕ → ℕ → Entry → Type 0
IsPageFault l v p e = (e ≡ Unmapped → ⊥) × (IsGuestPage l v p e → ⊥)

-- a piece of all that is held lies past all numbers that frames of memory can have
pub record IsFar (g : GhostLists) (f : ℕ) (h : Holder) : Type 0 where
  pub piece : Held
  pub held : Contains (all_held_in g) piece
  pub frame : piece.frames.first.0 ≡ f
  pub holder : piece.holder ≡ h
  pub far : IsSmallHeld piece → ⊥

-- two pieces of all that is held have the frame
pub record IsTwice (g : GhostLists) (f : ℕ) (one other : Holder) : Type 0 where
  pub first : Held
  pub second : Held
  pub rest : List Held
  pub held : IsPermutation (all_held_in g) (first ∷ (second ∷ rest))
  pub has : is_in_range first.frames f ≡ true
  pub has_too : is_in_range second.frames f ≡ true
  pub holder : first.holder ≡ one
  pub holder_too : second.holder ≡ other

-- what all parts say of the frame, where each frame is held once at most, is no condition, and of
-- each frame before it is one
pub record IsUnfit (g : GhostLists) (f : ℕ) (x : Facts) : Type 0 where
  pub held : List Held
  pub all : IsPermutation (all_held_in g) held
  pub once : IsHeldList held
  pub facts : x ≡ facts_in g held f
  pub none : IsCondition f x → ⊥
  pub before : (e : ℕ) → e < f → IsCondition e (facts_in g held e)

-- why a state isn't legal, whatever tables its trees need
abbrev pub IsIllegalButForTrees : GhostLists → Illegal → Type 0
IsIllegalButForTrees g (Slots x) = IsSlotFault (contents_in g) x
IsIllegalButForTrees g (Guest v) = SlotsFit (contents_in g) × IsGuestFault g v
IsIllegalButForTrees g (Outside at) =
    FitsParts g
    × IsOutside (layout_of g.layout).depth (tree_at (contents_in g) at.tree).table at.block
IsIllegalButForTrees g (GuestPage v p) =
    FitsTables g × IsPageFault (layout_of g.layout) v p (((contents_in g).guest v).tree.map p)
IsIllegalButForTrees g (HypPage p) =
    FitsTables g
    × GuestPagesFit (layout_of g.layout) (contents_in g)
    × (p < hyp_page 0)
    × ((contents_in g).shared.hyp.map p ≡ Unmapped → ⊥)
IsIllegalButForTrees g (FarFrame f h) = FitsPages g × IsFar g f h
IsIllegalButForTrees g (HeldTwice f one other) =
    FitsPages g × All IsSmallHeld (all_held_in g) × IsTwice g f one other
IsIllegalButForTrees g (Frame f x) = FitsPages g × IsUnfit g f x
IsIllegalButForTrees g (Tree t m) = ⊥

-- why a state isn't legal
abbrev pub IsIllegal : GhostLists → Illegal → Type 0
IsIllegal g (Tree t m) =
    FitsPages g
    × AreFramesLegal (layout_of g.layout) (contents_in g)
    × IsMisfit (layout_of g.layout).depth (tree_at (contents_in g) t) m
IsIllegal g other = IsIllegalButForTrees g other
