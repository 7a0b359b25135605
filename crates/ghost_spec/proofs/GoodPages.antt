-- Good pages of a guest, by the first and the last of them.
use Rattle.std.proofs.Common.{◌≡◌, ℕ, ◌+◌, ◌-◌, ◌≤◌, ◌<◌, ◌∙◌, nat_le, nat_lt, true, false, sym, arith}
use Rattle.std.proofs.lemmas.Bool.Decides.{nat_tests}
use Rattle.page_state.specs.Search.{all_below}
use Rattle.page_state.proofs.Cases.{by_test}
use Rattle.ghost_trees.proofs.Searches.{all_below_true, all_below_false}

-- not all of them are input pages, where the last one isn't
last_beyond : (p g n : ℕ) → 1 ≤ n → p < g + n → false ≡ all_below n (λ i. nat_lt (g + i) p)
last_beyond p g n some high =
    sym (all_below_false n (n - 1) (λ i. nat_lt (g + i) p) (omega arith) (beyond (g + (n - 1)) (omega arith)))
  where
    beyond : (k : ℕ) → p ≤ k → nat_lt k p ≡ false
    beyond k h = grind (arith, nat_tests)

all_inside : (p g n : ℕ) → g + n ≤ p → true ≡ all_below n (λ i. nat_lt (g + i) p)
all_inside p g n low = sym (all_below_true n (λ i. nat_lt (g + i) p) (λ i less. inside (g + i) (omega arith)))
  where
    inside : (k : ℕ) → k < p → nat_lt k p ≡ true
    inside k h = grind (arith, nat_tests)

pub few_pages : (p g n : ℕ) → 1 ≤ n → n ≤ p → nat_le g (p - n) ≡ all_below n (λ i. nat_lt (g + i) p)
few_pages p g n some few =
    by_test (nat_le g (p - n)) (λ e. e ∙ all_inside p g n (low e)) (λ e. e ∙ last_beyond p g n some (high e))
  where
    low : nat_le g (p - n) ≡ true → g + n ≤ p
    low e = let k : g ≤ p - n = grind (arith, nat_tests) in omega arith

    high : nat_le g (p - n) ≡ false → p < g + n
    high e = let k : p - n < g = grind (arith, nat_tests) in omega arith

pub many_pages : (p g n : ℕ) → 1 ≤ n → p < n → nat_le n p ≡ all_below n (λ i. nat_lt (g + i) p)
many_pages p g n some many = off ∙ last_beyond p g n some (omega arith)
  where
    off : nat_le n p ≡ false
    off = grind (arith, nat_tests)
