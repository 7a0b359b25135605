-- The words of a table that addresses reach, and the pages that they are for.
use Rattle.std.proofs.Common.{◌≡◌, ℕ, zero, suc, ◌+◌, ◌-◌, ◌*◌, ◌^◌, ◌<◌, ◌≤◌, true, false, List, length, get_or, take, refl, sym, ap, ◌∙◌, arith}
use Rattle.std.specs.Prelude.{nat_lt}
use Rattle.std.proofs.lemmas.Bool.Decides.{nat_tests}
use Rattle.std.proofs.Math.Nat.{mul-le-mul_right}
use Rattle.std.proofs.lemmas.List.{get_or-take, length-take-le}
use Rattle.page_state.specs.Geometries.{block_pages}
use Rattle.page_state.proofs.Cases.{by_lt}
use Rattle.page_state.proofs.Common.{if-true, if-false}
use Rattle.page_state.proofs.Sizes.{size_next, size_some}
use Rattle.walked_tables.specs.ByFrames.{most_pages, reached_words, slots_at, table_pages}

below : (d : ℕ) → d < 4 → nat_lt d 4 ≡ true
below d h = grind (arith, nat_tests)

top : (d : ℕ) → 4 ≤ d → nat_lt d 4 ≡ false
top d h = grind (arith, nat_tests)

pub slots_low : (d : ℕ) → d < 4 → slots_at d ≡ 512
slots_low d h = if-true (nat_lt d 4) 512 16 (below d h)

slots_top : (d : ℕ) → 4 ≤ d → slots_at d ≡ 16
slots_top d h = if-false (nat_lt d 4) 512 16 (top d h)

pub slots_few : (d : ℕ) → slots_at d ≤ 512
slots_few d =
    by_lt d 4 (λ l. let e = slots_low d l in omega (arith, e)) (λ l. let e = slots_top d l in omega (arith, e))

slots_some : (d : ℕ) → 1 ≤ slots_at d
slots_some d =
    by_lt d 4 (λ l. let e = slots_low d l in omega (arith, e)) (λ l. let e = slots_top d l in omega (arith, e))

pub words_low : (d : ℕ) (ws : List ℕ) → d < 4 → reached_words d ws ≡ ws
words_low d ws h = if-true (nat_lt d 4) ws (take 16 ws) (below d h)

words_top : (d : ℕ) (ws : List ℕ) → 4 ≤ d → reached_words d ws ≡ take 16 ws
words_top d ws h = if-false (nat_lt d 4) ws (take 16 ws) (top d h)

pub words_long : (d : ℕ) (ws : List ℕ) → length ws ≡ 512 → length (reached_words d ws) ≡ slots_at d
words_long d ws h =
    by_lt d 4 (λ l. ap length (words_low d ws l) ∙ h ∙ sym (slots_low d l))
    (λ l. ap length (words_top d ws l) ∙ length-take-le 16 ws (omega (arith, h)) ∙ sym (slots_top d l))

pub words_same : (d i : ℕ) (ws : List ℕ) → i < slots_at d → get_or (reached_words d ws) i 0 ≡ get_or ws i 0
words_same d i ws h =
    by_lt d 4 (λ l. ap (λ us. get_or us i 0) (words_low d ws l))
    (λ l. let e = slots_top d l in
    ap (λ us. get_or us i 0) (words_top d ws l) ∙ get_or-take 16 ws i 0 (omega (arith, h, e)))

pub pages_low : (d : ℕ) → d < 4 → table_pages d ≡ block_pages (d + 1)
pages_low d h = ap (λ n. n * block_pages d) (slots_low d h) ∙ sym (size_next d)

-- the table that a word leads on to has the word's pages
pub pages_back : (d : ℕ) → 1 ≤ d → d ≤ 4 → table_pages (d - 1) ≡ block_pages d
pages_back d a b = let e : d - 1 + 1 ≡ d = omega arith in pages_low (d - 1) (omega arith) ∙ ap block_pages e

pub pages_some : (d : ℕ) → 1 ≤ table_pages d
pages_some d = let a = slots_some d in
    let b = size_some d in
    by_lt 0 (table_pages d) (λ l. omega (arith, l)) (λ l. absurd (no_pages (slots_at d) (block_pages d) a b l))
  where
    no_pages : (m n : ℕ) → 1 ≤ m → 1 ≤ n → m * n ≤ 0 → ⊥
    no_pages m n a b l = omega (arith, mul-le-mul_right n a)

-- the place of a root's page
pub root_first : (d k n : ℕ) → k < n → n ≤ most_pages d → k * block_pages (d + 1) ≡ k * table_pages d
root_first d k n h f =
    by_lt d 4 (λ l. ap (λ m. k * m) (sym (pages_low d l)))
    (λ l. let e : most_pages d ≡ 1 = if-false (nat_lt d 4) 16 1 (top d l) in
    let z : k ≡ 0 = omega (arith, h, f, e) in
    rw z (omega arith))

pub root_place : (d k n : ℕ) → d ≤ 4 → k < n → n ≤ most_pages d → k * block_pages (d + 1) + table_pages d ≤ 2 ^ 40
root_place zero k n h l f = omega arith
root_place (suc zero) k n h l f = omega arith
root_place (suc (suc zero)) k n h l f = omega arith
root_place (suc (suc (suc zero))) k n h l f = omega arith
root_place (suc (suc (suc (suc zero)))) k n h l f = let z : k ≡ 0 = omega (arith, l, f) in rw z (omega arith)
root_place (suc (suc (suc (suc (suc d))))) k n h l f = absurd (omega arith)
