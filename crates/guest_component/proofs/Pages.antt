-- Whether a map is empty, by its pages and by its blocks.
use Rattle.std.proofs.Common.{◌≡◌, ℕ, zero, suc, ◌+◌, ◌*◌, ◌/◌, ◌%◌, ◌^◌, ◌≤◌, ◌<◌, sym, ap, subst, arith, true, false}
use Rattle.std.proofs.Math.Nat.{div-lt_iff_lt-mul}
use Rattle.page_state.specs.declared.entry.Entry.TheVariants.{Unmapped}
use Rattle.page_state.specs.Blocks.{is_empty}
use Rattle.page_state.specs.EntryTests.{is_unmapped}
use Rattle.page_state.specs.Geometries.{block_pages}
use Rattle.page_state.specs.Map.{Map}
use Rattle.page_state.specs.Search.{all_below}
use Rattle.page_state.proofs.Blocks.{all_from-each, all_from-by}
use Rattle.page_state.proofs.Common.{not-holds}
use Rattle.page_state.proofs.Sizes.{size_some}

-- a map without an entry
pub none_mapped : (n : ℕ) (m : Map) → ((p : ℕ) → m p ≡ Unmapped) → true ≡ all_below n (λ p. is_unmapped (m p))
none_mapped n m h = sym (all_from-by 0 n (λ p. is_unmapped (m p)) (λ p low high. ap is_unmapped (h p)))

-- where nothing is mapped, no block is
block_empty : (m : Map) (n d j : ℕ)
    → all_below n (λ p. is_unmapped (m p)) ≡ true
    → j * block_pages d + block_pages d ≤ n
    → is_empty m (d, j) ≡ true
unfolding is_empty
block_empty m n d j h most =
    all_from-by 0 (block_pages d) (λ i. is_unmapped (m (j * block_pages d + i)))
    (λ i low high. all_from-each 0 n (λ p. is_unmapped (m p)) h (j * block_pages d + i) (omega arith)
    (omega (arith, high, most)))

-- a block on which something is
pub block_mapped : (m : Map) (n d j : ℕ)
    → is_empty m (d, j) ≡ false
    → j * block_pages d + block_pages d ≤ n
    → false ≡ all_below n (λ p. is_unmapped (m p))
block_mapped m n d j none most =
    sym (not-holds (all_below n (λ p. is_unmapped (m p))) (λ k. let h = block_empty m n d j k most in absurd (cc)))

div_mod : (p s : ℕ) → 1 ≤ s → (p / s * s + p % s ≡ p) × (p % s < s)
div_mod p s some = (omega (arith, some), omega (arith, some))

-- blocks that are all empty
pub all_empty : (m : Map) (n d k : ℕ)
    → n ≡ k * block_pages d
    → ((j : ℕ) → j < k → is_empty m (d, j) ≡ true)
    → true ≡ all_below n (λ p. is_unmapped (m p))
unfolding is_empty
all_empty m n d k whole h = sym (all_from-by 0 n (λ p. is_unmapped (m p)) (λ p low high.
    let s = block_pages d in
    let some = size_some d in
    let here : p < k * s = omega (arith, high, whole) in
    let less : p / s < k = (div-lt_iff_lt-mul some).1 here in
    let at = div_mod p s some in
    let one : is_unmapped (m (p / s * s + p % s)) ≡ true =
    all_from-each 0 s (λ i. is_unmapped (m (p / s * s + i))) (h (p / s) less) (p % s) (omega arith)
    (omega (arith, at.1)) in
    subst (λ q. is_unmapped (m q) ≡ true) at.0 one))

-- the page at which a word of the root begins is in its block
pub slot_page : (d j : ℕ) → d < 4 → j < 512 → j * 2 ^ (9 * d) % 18446744073709551616 / block_pages d ≡ j
slot_page zero j p q = omega arith
slot_page (suc zero) j p q = omega arith
slot_page (suc (suc zero)) j p q = omega arith
slot_page (suc (suc (suc zero))) j p q = omega arith
slot_page (suc (suc (suc (suc d)))) j p q = absurd (omega arith)
