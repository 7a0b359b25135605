-- Cases on tests and numbers.
use Rattle.std.proofs.Common.{◌≡◌, ℕ, zero, suc, ◌<◌, refl, ap, arith, inl, inr, ◌⊎◌, Option, Some, None}

last : (i n : ℕ) → i < suc n → (i < n) ⊎ (i ≡ n)
last zero zero h = inr refl
last zero (suc n) h = inl (omega arith)
last (suc i) zero h = absurd (omega arith)
last (suc i) (suc n) h = elim (last i n (omega arith)) [ inl x ↦ inl (omega arith) | inr x ↦ inr (ap suc x) ]

pub by_last : {P : Type 0} (i n : ℕ) → i < suc n → (i < n → P) → (i ≡ n → P) → P
by_last {P} i n h f g = elim (last i n h) as (λ _. P) [ inl x ↦ f x | inr x ↦ g x ]

pub by_option : {P : Type 0} (o : Option ℕ) → ((f : ℕ) → o ≡ Some f → P) → (o ≡ None → P) → P
by_option (Some f) g h = g f refl
by_option None g h = h refl
