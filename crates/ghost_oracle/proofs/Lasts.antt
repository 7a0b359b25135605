-- A run behind a list, put there by the place of the last one.
use Rattle.std.proofs.Common.{◌≡◌, ℕ, zero, suc, ◌+◌, true, false, List, [], ◌∷◌, ◌++◌, length, get_or, refl, sym, ap, arith}
use Rattle.std.proofs.Math.ListN.{set}
use Rattle.page_state.specs.declared.entry.Run.{Run}
use Rattle.ghost_trees.specs.Joins.{continues, longer}
use Rattle.ghost_oracle.specs.inner.Walking.{joined_last}

pub last_longer : (xs : List Run) (r n m : Run) (k : ℕ)
    → k + 1 ≡ length xs
    → n ≡ get_or xs k n
    → m ≡ get_or xs k m
    → continues n r ≡ true
    → set xs k (longer m r) ≡ joined_last xs r
last_longer [] r n m k l e f h = absurd (omega arith)
last_longer (x ∷ []) r n m zero l e f h = let a : n ≡ x = e in let b : m ≡ x = f in rw b (rw (sym a) (rw h refl))
last_longer (x ∷ []) r n m (suc k) l e f h = absurd (omega arith)
last_longer (x ∷ y ∷ xs) r n m zero l e f h = absurd (omega arith)
last_longer (x ∷ y ∷ xs) r n m (suc k) l e f h = ap (λ ys. x ∷ ys) (last_longer (y ∷ xs) r n m k (omega arith) e f h)

pub last_apart : (xs : List Run) (r n : Run) (k : ℕ)
    → k + 1 ≡ length xs
    → n ≡ get_or xs k n
    → continues n r ≡ false
    → xs ++ r ∷ [] ≡ joined_last xs r
last_apart [] r n k l e h = absurd (omega arith)
last_apart (x ∷ []) r n zero l e h = let f : n ≡ x = e in rw (sym f, h) refl
last_apart (x ∷ []) r n (suc k) l e h = absurd (omega arith)
last_apart (x ∷ y ∷ xs) r n zero l e h = absurd (omega arith)
last_apart (x ∷ y ∷ xs) r n (suc k) l e h = ap (λ ys. x ∷ ys) (last_apart (y ∷ xs) r n k (omega arith) e h)

pub last_alone : (xs : List Run) (r : Run) → length xs ≡ 0 → xs ++ r ∷ [] ≡ joined_last xs r
last_alone [] r l = refl
last_alone (x ∷ xs) r l = absurd (omega arith)
