-- Tests that hold on a range, page by page.
use Rattle.std.proofs.Common.{◌≡◌, ℕ, ◌<◌, ◌≤◌, ◌+◌, ◌-◌, ◌&&◌, ◌∙◌, nat_le, nat_lt, Bool, true, false, List, Option, Some, None, IsSome, is_some, sym, arith, rules}
use Rattle.std.proofs.lemmas.Bool.Decides.{nat_tests}
use Rattle.part_types.specs.MemoryRows.{HasMemoryRows}
use Rattle.owner_table.specs.Rows.{row_at}
use Rattle.page_state.specs.declared.row.Row.{Row}
use Rattle.page_state.specs.Layouts.{Layout, is_memory, is_good_range}
use Rattle.run_list.specs.declared.run.Run.{Run}
use Rattle.page_state.specs.Search.{all_below}
use Rattle.page_state.proofs.Blocks.{all_from-each, all_from-by}
use Rattle.page_state.proofs.Cases.{by_test}
use Rattle.page_state.proofs.Common.{and-right, not-holds}

pub all_hold : (n : ℕ) (test : ℕ → Bool) → ((i : ℕ) → i < n → test i ≡ true) → true ≡ all_below n test
all_hold n test h = sym (all_from-by 0 n test (λ i low high. h i (omega arith)))

pub one_fails : (n i : ℕ) (test : ℕ → Bool) → i < n → test i ≡ false → false ≡ all_below n test
one_fails n i test h f =
    sym
    (not-holds _
    (λ k. let t : test i ≡ true = all_from-each 0 n test k i (omega arith) (omega arith) in absurd (cc)))

-- the pages of a range are input pages where the last one is
pub pages_hold : (p g n : ℕ) → n ≤ p → g ≤ p - n → true ≡ all_below n (λ i. nat_lt (g + i) p)
pages_hold p g n some low =
    all_hold n (λ i. nat_lt (g + i) p) (λ i less. let high : g + i < p = omega arith in below p (g + i) high)
  where
    below : (p k : ℕ) → k < p → nat_lt k p ≡ true
    below p k h = grind (arith, nat_tests)

-- and not all of them, where the last one isn't
pub last_fails : (p g n : ℕ) → 1 ≤ n → p < g + n → false ≡ all_below n (λ i. nat_lt (g + i) p)
last_fails p g n some high =
    one_fails n (n - 1) (λ i. nat_lt (g + i) p) (omega arith) (beyond p (g + (n - 1)) (omega arith))
  where
    beyond : (p k : ℕ) → p ≤ k → nat_lt k p ≡ false
    beyond p k h = grind (arith, nat_tests)

-- the pages of a range are input pages just where the first is far enough from their end
pub few_pages : (p g n : ℕ) → 1 ≤ n → n ≤ p → nat_le g (p - n) ≡ all_below n (λ i. nat_lt (g + i) p)
few_pages p g n some few =
    by_test (nat_le g (p - n)) (λ e. e ∙ pages_hold p g n few (low e)) (λ e. e ∙ last_fails p g n some (high e))
  where
    low : nat_le g (p - n) ≡ true → g ≤ p - n
    low e = grind (arith, nat_tests)

    high : nat_le g (p - n) ≡ false → p < g + n
    high e = let k : p - n < g = grind (arith, nat_tests) in omega arith

-- more pages than there are input pages aren't all of them
pub many_pages : (p g n : ℕ) → 1 ≤ n → p < n → nat_le n p ≡ all_below n (λ i. nat_lt (g + i) p)
many_pages p g n some many = off ∙ last_fails p g n some (omega arith)
  where
    off : nat_le n p ≡ false
    off = grind (arith, nat_tests)

-- something is there
some_is : {X : Type 0} (o : Option X) → is_some o ≡ true → IsSome o
some_is (Some x) h = search rules
some_is None h = cc

-- each frame of a good range has a row
pub rows_of_range : (l : Layout) (rows : List (Run Row)) (f n i : ℕ)
    → HasMemoryRows l.memory rows
    → is_good_range l f n ≡ true
    → i < n
    → IsSome (row_at rows (f + i))
rows_of_range l rows f n i has good less =
    let each = and-right (nat_le 1 n && nat_le n 512) (all_below n (λ j. is_memory l (f + j))) good in
    some_is (row_at rows (f + i))
    (has (f + i) ∙ all_from-each 0 n (λ j. is_memory l (f + j)) each i (omega arith) (omega arith))
