-- What holds of every state.
use Rattle.std.specs.Prelude.{◌↔◌, ℕ, List, All, IsPermutation}
use Rattle.page_state.specs.LayoutFaults.{IsAccepted}
use Rattle.freedoms.specs.AnyTrees.{AreFramesLegal}
use Rattle.ghost_legal.specs.declared.finding.Illegal.{Illegal}
use Rattle.ghost_legal.specs.Illegals.{IsIllegal}
use Rattle.ghost_legal.specs.Blocks.{TreesHaveFirstBlocks, TreesHaveOwnBlocks}
use Rattle.ghost_legal.specs.Listed.{all_held_in}
use Rattle.page_state.specs.LayoutView.{layout_of}
use Rattle.ghost_spec.specs.declared.lists.GhostLists.{GhostLists}
use Rattle.ghost_spec.specs.States.{contents_in, IsKept}
use Rattle.descriptor.specs.declared.State.{State}
use Rattle.reference_model.specs.help.Conditions.{GuestsFit, IsMemoryLeaf, Legal}
use Rattle.ghost_legal.specs.declared.finding.Holder.TheVariants.{Guest}
use Rattle.ghost_legal.specs.declared.held.Held.{Held}
use Rattle.ghost_legal.specs.Pages.{HaveGoodRuns, IsWhole}
use Rattle.ghost_legal.specs.AllHeld.{AreCounted, IsHeldIn, AreAllHeld, GuestPagesFit, IsHypBelow}
use Rattle.ghost_legal.specs.Facts.{IsCondition}
use Rattle.ghost_legal.specs.Frames.{facts_in, held_frames}
use Rattle.ghost_legal.specs.Ranges.{AreInOrder}

-- if each frame is in exactly one condition, all frames are legal
abbrev pub FramesAreLegal : Type 0
FramesAreLegal =
    (g : GhostLists) (hs : List Held)
    → AreInOrder held_frames hs
    → AreAllHeld g hs
    → ((f : ℕ) → IsCondition f (facts_in g hs f))
    → GuestPagesFit (layout_of g.layout) (contents_in g)
    → IsHypBelow (contents_in g)
    → AreFramesLegal (layout_of g.layout) (contents_in g)

-- if all frames are legal, each is in exactly one condition, guests map leaves of memory, and the
-- hypervisor nothing below
abbrev pub LegalFrames : Type 0
LegalFrames =
    (g : GhostLists) (hs : List Held)
    → AreInOrder held_frames hs
    → AreAllHeld g hs
    → AreFramesLegal (layout_of g.layout) (contents_in g)
    → ((f : ℕ) → IsCondition f (facts_in g hs f))
    × GuestPagesFit (layout_of g.layout) (contents_in g)
    × IsHypBelow (contents_in g)

-- a permutation of all that is held has each frame as often as the parts hold it
abbrev pub HasCounts : Type 0
HasCounts =
    (g : GhostLists) (hs : List Held)
    → TreesHaveOwnBlocks (layout_of g.layout).depth g
    → IsPermutation (all_held_in g) hs
    → AreCounted g hs

-- a permutation of all that is held has a frame for a guest if and only if the guest maps it in the
-- same way
abbrev pub GuestsAreHeld : Type 0
GuestsAreHeld =
    (g : GhostLists) (hs : List Held)
    → HaveGoodRuns g.guests.items
    → IsPermutation (all_held_in g) hs
    → (v page f : ℕ) (state : State)
    → IsMemoryLeaf f state (((contents_in g).guest v).tree.map page)
    ↔ IsHeldIn hs (Guest v page state) f

-- if each guest is Empty and holds nothing, or has a root, all guests fit
abbrev pub WholeGuestsFit : Type 0
WholeGuestsFit =
    (g : GhostLists)
    → All (IsWhole (layout_of g.layout).depth) g.guests.items
    → GuestsFit (layout_of g.layout) (contents_in g)

-- the fault of a state isn't there in a legal one
abbrev pub NoFalseAlarm : Type 0
NoFalseAlarm =
    (g : GhostLists)
    → IsKept g
    → TreesHaveFirstBlocks g
    → IsAccepted g.layout.map
    → (x : Illegal)
    → IsIllegal g x
    → Legal (layout_of g.layout) (contents_in g)
    → ⊥
