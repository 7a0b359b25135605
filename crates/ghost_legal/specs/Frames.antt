-- The facts of the parts of a state and of a list of held frames about each frame.
use Rattle.std.specs.Prelude.{◌≡◌, ℕ, ◌+◌, ◌-◌, ◌^◌, ◌<◌, ◌≤◌, true, List, ◌∷◌, All, Option, Some, None, IsPermutation}
use Rattle.page_state.specs.declared.entry.PageRange.{PageRange}
use Rattle.page_state.specs.Layouts.{hyp_page}
use Rattle.page_state.specs.Regions.{end_of, has_memory, is_in_range}
use Rattle.page_state.specs.Runs.{map_of}
use Rattle.ghost_spec.specs.declared.lists.GhostLists.{GhostLists}
use Rattle.ghost_spec.specs.Views.{row_in}
use Rattle.ghost_legal.specs.declared.finding.Facts.{Facts}
use Rattle.ghost_legal.specs.declared.finding.Holder.{Holder}
use Rattle.ghost_legal.specs.declared.finding.Holder.TheVariants.{Guest}
use Rattle.ghost_legal.specs.declared.held.Held.{Held}
use Rattle.ghost_legal.specs.Facts.{later, IsCondition}
use Rattle.ghost_legal.specs.Ranges.{at, AreInOrder}

abbrev pub held_frames : Held → PageRange
held_frames h = h.frames

-- the holder of a frame of a piece
abbrev pub holder_on : Held → ℕ → Holder
holder_on h f = later h.holder (f - h.frames.first.0)

abbrev pub holder_of : Option Held → ℕ → Option Holder
holder_of None f = None
holder_of (Some h) f = Some (holder_on h f)

-- the holder of a frame: that of the first piece with the frame
abbrev pub held_at : List Held → ℕ → Option Holder
held_at hs f = holder_of (at held_frames hs f) f

-- the facts of all parts about a frame
abbrev pub facts_in : GhostLists → List Held → ℕ → Facts
facts_in g hs f = record {
  memory = has_memory g.layout.map f;
  host = map_of g.shared.host.runs.items f;
  hyp = map_of g.shared.hyp.runs.items (hyp_page f);
  row = row_in g.shared.rows.runs f;
  holder = held_at hs f;
}

-- a holder that is a guest is one of the 64, and its pages stay small along `count` frames
abbrev pub IsSmallHolder : Holder → ℕ → Type 0
IsSmallHolder (Guest slot page state) count = (slot < 64) × (page + count ≤ 2 ^ 63)
IsSmallHolder other count = Unit {0}

-- the numbers of a piece are small
pub record IsSmallHeld (h : Held) : Type 0 where
  pub frames : end_of h.frames ≤ 2 ^ 63
  pub holder : IsSmallHolder h.holder h.frames.count

-- pieces in order
pub record IsHeldList (hs : List Held) : Type 0 where
  pub order : AreInOrder held_frames hs
  pub small : All IsSmallHeld hs

-- the first frame that is in no condition, and the facts of all parts about it
pub record IsFrameFault (g : GhostLists) (hs : List Held) (w : ℕ × Facts) : Type 0 where
  pub facts : w.1 ≡ facts_in g hs w.0
  pub none : IsCondition w.0 w.1 → ⊥
  pub before : (f : ℕ) → f < w.0 → IsCondition f (facts_in g hs f)

-- two pieces of a list have the first frame of the second
pub record AreTwice (hs : List Held) (a b : Held) : Type 0 where
  pub rest : List Held
  pub two : IsPermutation hs (a ∷ (b ∷ rest))
  pub has : is_in_range a.frames b.frames.first.0 ≡ true
  pub has_too : is_in_range b.frames b.frames.first.0 ≡ true
