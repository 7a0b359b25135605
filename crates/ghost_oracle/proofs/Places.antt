-- The pages of a part of a block, and how a map goes on over parts.
use Rattle.std.proofs.Common.{◌≡◌, ℕ, zero, suc, ◌+◌, ◌-◌, ◌*◌, ◌/◌, ◌%◌, ◌^◌, ◌<◌, ◌≤◌, true, false, cond, ltb, sym, ap, ◌∙◌, arith}
use Rattle.std.proofs.lemmas.Nat.{div-mul-add}
use Rattle.std.proofs.lemmas.Bool.Decides.{nat_tests}
use Rattle.std.proofs.Math.Nat.{mul-le-mul_right}
use Rattle.page_state.specs.Geometries.{block_pages}
use Rattle.page_state.specs.Map.{Map}
use Rattle.page_state.proofs.Cases.{by_lt}
use Rattle.page_state.proofs.Sizes.{size_some, size_next}
use Rattle.table_tree.specs.Meaning.{index_at}
use Rattle.ghost_oracle.specs.inner.Walking.{GoesOn}

-- a page of part `k` of parts of `s` pages
pub part_of : (s k p : ℕ) → 1 ≤ s → k * s ≤ p → p < (k + 1) * s → p / s ≡ k
part_of s k p h a b = let e : p ≡ k * s + (p - k * s) = omega arith in
    let l : p - k * s < s = omega arith in
    ap (λ n. n / s) e ∙ div-mul-add k s (p - k * s) l

pub rest_in : (s k p : ℕ) → 1 ≤ s → k * s ≤ p → p < (k + 1) * s → p % s ≡ p - k * s
rest_in s k p h a b = let e : p / s * s ≡ k * s = ap (λ n. n * s) (part_of s k p h a b) in omega (arith, h, e)

pub index_in : (d n i p : ℕ)
    → i < 512
    → (n * 512 + i) * block_pages d ≤ p
    → p < (n * 512 + i + 1) * block_pages d
    → index_at d p ≡ i
index_in d n i p l a b = let e : p / block_pages d ≡ n * 512 + i =
    part_of (block_pages d) (n * 512 + i) p (size_some d) a b in
    rw e (omega arith)

-- the first page of a block is that of its first part, and its end that of its last
pub first_part : (d n : ℕ) → n * block_pages (d + 1) ≡ n * 512 * block_pages d
first_part d n = rw (size_next d) (omega arith)

-- the pages under a word of a table
pub pages_few : (d : ℕ) → d < 4 → block_pages d ≤ 2 ^ 27
pages_few zero h = omega arith
pages_few (suc zero) h = omega arith
pages_few (suc (suc zero)) h = omega arith
pages_few (suc (suc (suc zero))) h = omega arith
pages_few (suc (suc (suc (suc d)))) h = absurd (omega arith)

-- a part of a block ends where the block does or before
pub part_ends : (d n i : ℕ) → i < 512 → (n * 512 + i + 1) * block_pages d ≤ (n + 1) * block_pages (d + 1)
part_ends d n i h = let e : (n + 1) * block_pages (d + 1) ≡ (n + 1) * 512 * block_pages d = first_part d (n + 1) in
    let m : (n * 512 + i + 1) * block_pages d ≤ (n + 1) * 512 * block_pages d =
    mul-le-mul_right (block_pages d) (omega arith) in
    omega (arith, e, m)

pub part_small : (d n i s : ℕ)
    → i < 512
    → s ≡ block_pages d
    → (n + 1) * block_pages (d + 1) ≤ 2 ^ 36
    → (n * 512 + i) * s + s ≤ 2 ^ 36
part_small d n i s h e p = let m = part_ends d n i h in rw e (omega (arith, m, p))

less_test : (p q : ℕ) → p < q → ltb p q ≡ true
less_test p q h = grind (arith, nat_tests)

more_test : (p q : ℕ) → q ≤ p → ltb p q ≡ false
more_test p q h = grind (arith, nat_tests)

-- a map that goes on twice
pub on_twice : (m n old mid new : Map) (a b c : ℕ)
    → a ≤ b
    → ((p : ℕ) → b ≤ p → p < c → n p ≡ m p)
    → GoesOn m a b old mid
    → GoesOn n b c mid new
    → GoesOn m a c old new
on_twice m n old mid new a b c h same f g p l = g p l ∙ by_lt p b
    (λ k. ap (λ t. cond t (mid p) (n p)) (less_test p b k) ∙ f p k)
    (λ k. ap (λ t. cond t (mid p) (n p)) (more_test p b k) ∙ same p k l
    ∙ sym (ap (λ t. cond t (old p) (m p)) (more_test p a (omega arith))))

pub on_not : (m old : Map) (a : ℕ) → GoesOn m a a old old
on_not m old a p l = sym (ap (λ t. cond t (old p) (m p)) (less_test p a l))
