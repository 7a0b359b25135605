-- Borrowed frames, and whether each is shared.
use Rattle.std.specs.Prelude.{◌≡◌, ℕ, ◌<◌, ◌≤◌, All, Any}
use Rattle.page_state.specs.declared.entry.Run.{Run}
use Rattle.reference_model.specs.model.State.{Contents}
use Rattle.ghost_spec.specs.declared.lists.GhostLists.{GhostLists}
use Rattle.ghost_sound.specs.declared.leaves.Side.TheVariants.{Borrows, Shares}
use Rattle.ghost_sound.specs.declared.share.Stray.{Stray}
use Rattle.ghost_sound.specs.inner.Leaves.{runs_in, IsOn}
use Rattle.ghost_sound.specs.Sound.{IsUnsharedAt}

-- a run doesn't share the frame
abbrev pub HasNot : ℕ → Run → Type 0
HasNot f r = (page : ℕ) → IsOn Shares r page f → ⊥

-- a run shares the frames from one up to another
pub record EndsAt (f end : ℕ) (r : Run) : Type 0 where
  pub above : f < end
  pub shared : (g : ℕ) → f ≤ g → g < end → (page : ℕ) × IsOn Shares r page g

-- no run shares the frame
abbrev pub SharesNone : GhostLists → ℕ → Type 0
SharesNone g f = (u : ℕ) → u < 66 → All (HasNot f) (runs_in g u)

-- some run shares the frames
abbrev pub IsSharedTo : GhostLists → ℕ → ℕ → Type 0
IsSharedTo g f end = (u : ℕ) × (u < 66) × Any (EndsAt f end) (runs_in g u)

-- some run shares the frame
abbrev pub IsSharedBy : GhostLists → ℕ → Type 0
IsSharedBy g f = (u : ℕ) × (u < 66) × Any (λ r. (page : ℕ) × IsOn Shares r page f) (runs_in g u)

-- each frame from one up to another is shared
abbrev pub AreShared : GhostLists → ℕ → ℕ → Type 0
AreShared g first end = (f : ℕ) → first ≤ f → f < end → IsSharedBy g f

-- one of these isn't
pub record IsUnshared (g : GhostLists) (first end f : ℕ) : Type 0 where
  pub from : first ≤ f
  pub below : f < end
  pub none : SharesNone g f

-- each frame that a run borrows is shared
abbrev pub AllShared : GhostLists → Run → Type 0
AllShared g r = (page f : ℕ) → IsOn Borrows r page f → IsSharedBy g f

-- a run of the tree borrows the frame there, and no run shares it
pub record IsUnsharedOn (g : GhostLists) (t : ℕ) (a : Stray) (r : Run) : Type 0 where
  pub tree : a.borrower.tree ≡ t
  pub borrowed : IsOn Borrows r a.borrower.page.0 a.frame
  pub none : SharesNone g a.frame

-- a run of some tree does
abbrev pub IsStrayIn : GhostLists → Stray → Type 0
IsStrayIn g a = (t : ℕ) × (t < 66) × Any (IsUnsharedOn g t a) (runs_in g t)

-- the frame is borrowed there, and nobody shares it
abbrev pub IsStray : Contents → Stray → Type 0
IsStray s a = IsUnsharedAt s a.frame a.borrower
