-- The first difference of two maps.
use Rattle.std.specs.Prelude.{◌≡◌, ℕ, ◌<◌}

-- two functions differ at a number, and agree at each smaller one
pub record IsFirstApart {X : Type 0} (f g : ℕ → X) (n : ℕ) : Type 0 where
  pub differ : f n ≡ g n → ⊥
  pub before : (k : ℕ) → k < n → f k ≡ g k
