-- Two entries of one frame.
use Rattle.std.specs.Prelude.{◌≡◌, ℕ, ◌<◌, All, Any}
use Rattle.page_state.specs.declared.entry.Run.{Run}
use Rattle.reference_model.specs.model.State.{Contents}
use Rattle.ghost_spec.specs.declared.lists.GhostLists.{GhostLists}
use Rattle.ghost_sound.specs.declared.leaves.Side.{Side}
use Rattle.ghost_sound.specs.declared.pairs.Pair.{Pair}
use Rattle.ghost_sound.specs.inner.Leaves.{runs_in, Has, IsOn}

-- two runs of two trees that map one frame map it at one place
abbrev pub AreOne : Side → ℕ → Run → ℕ → Run → Type 0
AreOne side t r u s = (p q f : ℕ) → IsOn side r p f → IsOn side s q f → (u ≡ t) × (q ≡ p)

-- both map the frame, at two places
pub record IsMeeting (side : Side) (t : ℕ) (r : Run) (u : ℕ) (s : Run) (p : Pair) : Type 0 where
  pub one_tree : p.one.tree ≡ t
  pub other_tree : p.other.tree ≡ u
  pub first : IsOn side r p.one.page.0 p.frame
  pub second : IsOn side s p.other.page.0 p.frame
  pub differ : p.other.tree ≡ p.one.tree → p.other.page.0 ≡ p.one.page.0 → ⊥

-- a run of a tree and those of all trees map no frame at two places
abbrev pub MeetsNone : Side → GhostLists → ℕ → Run → Type 0
MeetsNone side g t r = (u : ℕ) → u < 66 → All (AreOne side t r u) (runs_in g u)

-- some run of some tree maps a frame of the run at another place
abbrev pub IsMetBy : Side → GhostLists → ℕ → Run → Pair → Type 0
IsMetBy side g t r p = (u : ℕ) × (u < 66) × Any (λ s. IsMeeting side t r u s p) (runs_in g u)

-- some run of some tree is met so
abbrev pub IsMet : Side → GhostLists → Pair → Type 0
IsMet side g p = (t : ℕ) × (t < 66) × Any (λ r. IsMetBy side g t r p) (runs_in g t)

-- each frame has one entry that counts at most
abbrev pub IsHeldOnce : Side → Contents → Type 0
IsHeldOnce side s =
    (f a page b other : ℕ) → Has side s a page f → Has side s b other f → (b ≡ a) × (other ≡ page)

-- two entries of the frame count
pub record IsTwice (side : Side) (s : Contents) (p : Pair) : Type 0 where
  pub first : Has side s p.one.tree p.one.page.0 p.frame
  pub second : Has side s p.other.tree p.other.page.0 p.frame
  pub differ : p.other.tree ≡ p.one.tree → p.other.page.0 ≡ p.one.page.0 → ⊥
