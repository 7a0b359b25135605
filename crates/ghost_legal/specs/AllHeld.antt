-- What it means that a list has all that is held in a state, and what else is asked of its frames.
use Rattle.std.specs.Prelude.{◌≡◌, ℕ, ◌<◌, ◌&&◌, ◌⊎◌, ◌↔◌, Bool, true, List, Any, Some, sum_by}
use Rattle.descriptor.specs.declared.Prot.{Prot}
use Rattle.descriptor.specs.declared.State.{State}
use Rattle.page_state.specs.declared.entry.Entry.{Entry}
use Rattle.page_state.specs.declared.entry.Entry.TheVariants.{Unmapped}
use Rattle.page_state.specs.EntryTests.{leaf}
use Rattle.page_state.specs.Geometries.{pages_below}
use Rattle.page_state.specs.Layouts.{Layout, hyp_page}
use Rattle.page_state.specs.LayoutView.{layout_of}
use Rattle.page_state.specs.Regions.{is_in_range}
use Rattle.reference_model.specs.help.Conditions.{in_shared, in_vm, in_hand, one, shared_uses, guest_uses, IsGood, IsMemoryLeaf}
use Rattle.reference_model.specs.model.Owner.{is_in_hand}
use Rattle.reference_model.specs.model.State.{Contents}
use Rattle.ghost_spec.specs.declared.lists.GhostLists.{GhostLists}
use Rattle.ghost_spec.specs.States.{contents_in}
use Rattle.ghost_legal.specs.declared.finding.Holder.{Holder}
use Rattle.ghost_legal.specs.declared.finding.Holder.TheVariants.{Guest}
use Rattle.ghost_legal.specs.declared.held.Held.{Held}
use Rattle.ghost_legal.specs.Facts.{held_in}
use Rattle.ghost_legal.specs.Frames.{held_at, holder_on}

-- how often pieces have the frame, for a holder that passes the test
abbrev pub held_count : (Holder → Bool) → ℕ → List Held → ℕ
held_count test f hs = sum_by (λ h. one (is_in_range h.frames f && test (holder_on h f))) hs

-- a piece has the frame for the holder
abbrev pub IsHeldIn : List Held → Holder → ℕ → Type 0
IsHeldIn hs holder f = Any (λ h. (is_in_range h.frames f ≡ true) × (holder_on h f ≡ holder)) hs

-- pieces have each frame as often as the parts of a state hold it
pub record AreCounted (g : GhostLists) (hs : List Held) : Type 0 where
  pub shared : (f : ℕ)
      → shared_uses (layout_of g.layout).depth (contents_in g).shared f
      ≡ held_count (λ h. in_shared (held_in h)) f hs
  pub vm : (v f : ℕ)
      → guest_uses (layout_of g.layout).depth ((contents_in g).guest v) f
      ≡ held_count (λ h. in_vm v (held_in h)) f hs
  pub hand : (c f : ℕ)
      → one (is_in_hand ((contents_in g).cpu c).hand f)
      ≡ held_count (λ h. in_hand c (held_in h)) f hs

-- pieces are all that the parts of a state hold
pub record AreAllHeld (g : GhostLists) (hs : List Held) : Type 0 where
  pub counted : AreCounted g hs
  pub guest : (v page f : ℕ) (state : State)
      → IsMemoryLeaf f state (((contents_in g).guest v).tree.map page)
      ↔ IsHeldIn hs (Guest v page state) f
  pub good : (f : ℕ) (h : Holder) → held_at hs f ≡ Some h → IsGood (layout_of g.layout) (held_in h)

-- a guest's page is Unmapped or a leaf of memory, of one of the 64 guests, and one of the input
-- pages
pub record IsGuestPage (l : Layout) (v page : ℕ) (e : Entry) : Type 0 where
  pub frame : ℕ
  pub prot : Prot
  pub state : State
  pub leaf_is : e ≡ leaf prot frame state
  pub slot : v < 64
  pub below : page < pages_below l.depth

abbrev pub GuestPagesFit : Layout → Contents → Type 0
GuestPagesFit l s =
    (v page : ℕ)
    → ((s.guest v).tree.map page ≡ Unmapped) ⊎ IsGuestPage l v page ((s.guest v).tree.map page)

-- the hypervisor maps nothing below the pages of frames
abbrev pub IsHypBelow : Contents → Type 0
IsHypBelow s = (p : ℕ) → p < hyp_page 0 → s.shared.hyp.map p ≡ Unmapped
