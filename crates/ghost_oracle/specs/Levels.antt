-- A number that each value which is there has.
use Rattle.std.specs.Prelude.{◌≡◌, ℕ, List, Option, Some, None, All, IfSome}
use Rattle.std.specs.Coded.{Unit-prop, Π_prop}
use Rattle.std.proofs.Math.Nat.{ℕ_set}

some_prop : {X : Type 0} (f : X → ℕ) (n : ℕ) (o : Option X) → IsProp (IfSome o (λ x. f x ≡ n))
some_prop f n None = Unit-prop
some_prop f n (Some x) = ℕ_set _ _

-- at most one proof says that each has the number
pub each_prop : {X : Type 0} (f : X → ℕ) (n : ℕ) (xs : List (Option X))
    → IsProp (All (λ o. IfSome o (λ x. f x ≡ n)) xs)
each_prop f n xs = Π_prop (λ k. Π_prop (λ d. Π_prop (λ l. some_prop f n _)))
