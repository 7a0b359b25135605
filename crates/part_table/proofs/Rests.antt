-- Passes at rest.
use Rattle.std.proofs.Common.{◌≡◌, ℕ, zero, suc, List, [], ◌∷◌, Bool, false, cond, refl, ap, ◌∙◌}
use Rattle.std.specs.Prelude.{Option, None, is_some, filter, slice_index, replicate}
use Rattle.part_table.specs.declared.slot.Slot.{Slot}
use Rattle.part_table.specs.Parts.{parts}
use Rattle.part_table.specs.Passes.{numbers_below, numbers_held}
use Rattle.part_table.specs.Rule.{Hands, held_at}

filter_none : (f : ℕ → Bool) (xs : List ℕ) → ((x : ℕ) → f x ≡ false) → filter f xs ≡ []
filter_none f [] none = refl
filter_none f (x ∷ xs) none = ap (λ b. cond b (x ∷ filter f xs) (filter f xs)) (none x) ∙ filter_none f xs none

module _ {A : Type 0} (h : Hands A) (idle : (k : ℕ) → held_at h k ≡ None) where
  pub none_held : numbers_held h ≡ []
  unfolding numbers_held
  none_held =
      filter_none (λ k. is_some (held_at h k)) (numbers_below parts)
      (λ k. ap (λ (o : Option (Slot A)). is_some o) (idle k))

pub zeros : (n k : ℕ) → slice_index (replicate n 0) k ≡ 0
zeros zero k = refl
zeros (suc n) zero = refl
zeros (suc n) (suc k) = zeros n k
