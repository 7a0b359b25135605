-- A function with another value at one number.
use Rattle.std.proofs.Common.{◌≡◌, ℕ, inl, inr}
use Rattle.std.specs.Prelude.{◌==◌}
use Rattle.reference_model.specs.model.State.{put_at}
use Rattle.page_state.proofs.Common.{both, eq-self, eq-same}

-- a function keeps its value at the number where that is put, as far as `g` sees it
pub put_at-same : {X : Type 0} {Y : Type 0} (g : X → Y) (f : ℕ → X) (k : ℕ) (x : X)
    → g x ≡ g (f k)
    → (j : ℕ)
    → g (put_at f k x j) ≡ g (f j)
put_at-same g f k x e j = elim (both (j == k)) [
  | inl h ↦ let same : j ≡ k = eq-same j k h in rw (same, eq-self k) e
  | inr h ↦ simp h
]
