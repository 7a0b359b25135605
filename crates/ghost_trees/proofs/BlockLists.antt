-- The blocks that meet a range, page by page.
use Rattle.std.proofs.Common.{◌≡◌, ℕ, zero, suc, ◌+◌, ◌-◌, ◌*◌, ◌/◌, ◌%◌, ◌^◌, ◌<◌, ◌≤◌, min, Bool, true, false, ◌==◌, ◌||◌, List, [], ◌∷◌, ◌++◌, filter, All, refl, sym, ap, ◌∙◌, arith, append_assoc, append-nil}
use Rattle.std.proofs.lemmas.List.Elements.{All-append, All-nil, All-cons, All-filter}
use Rattle.std.proofs.lemmas.Bool.Decides.{nat_tests}
use Rattle.std.proofs.Math.Nat.{div-mul-le_self}
use Rattle.page_state.specs.Trees.{Block}
use Rattle.page_state.specs.Geometries.{block_pages}
use Rattle.page_state.specs.Blocks.{first_page, block_at, blocks_with, blocks_from, blocks_along, blocks_on}
use Rattle.ghost_trees.specs.Trees.{IsLowBlock}

-- the blocks with a page, all or those that begin with it
abbrev pub met : Bool → ℕ → ℕ → List Block
met all top page = filter (λ b. all || first_page b == page) (blocks_with top page)

filter_all : (bs : List Block) (page : ℕ) → filter (λ b. true || first_page b == page) bs ≡ bs
filter_all [] page = refl
filter_all (b ∷ bs) page = ap (λ xs. b ∷ xs) (filter_all bs page)

along_more : (top page n : ℕ) → blocks_along top page n ++ blocks_from top (page + n) ≡ blocks_along top page (n + 1)
along_more top page zero = let e : page + 0 ≡ page = omega arith in rw e (sym (append-nil (blocks_from top page)))
along_more top page (suc n) =
    let e : page + suc n ≡ page + 1 + n = omega arith in
    let f : suc n + 1 ≡ suc (n + 1) = omega arith in
    rw (e, f)
    (append_assoc (blocks_from top page) (blocks_along top (page + 1) n) (blocks_from top (page + 1 + n))
    ∙ ap (λ xs. blocks_from top page ++ xs) (along_more top (page + 1) n))

pub on_more : (top first n : ℕ) → blocks_on top first n ++ met (n == 0) top (first + n) ≡ blocks_on top first (n + 1)
unfolding blocks_on
on_more top first zero = let e : first + 0 ≡ first = omega arith in
    rw e (filter_all (blocks_with top first) first ∙ sym (append-nil (blocks_with top first)))
on_more top first (suc n) =
    let e : first + suc n ≡ first + 1 + n = omega arith in
    let f : suc n + 1 ≡ suc (n + 1) = omega arith in
    let z : (suc n == 0) ≡ false = grind (arith, nat_tests) in
    rw (e, f, z)
    (append_assoc (blocks_with top first) (blocks_along top (first + 1) n) (blocks_from top (first + 1 + n))
    ∙ ap (λ xs. blocks_with top first ++ xs) (along_more top (first + 1) n))

-- between multiples of 512 no block begins
aligned : (d page : ℕ) → d < 3 → page / block_pages (suc d) * block_pages (suc d) ≡ page → page % 512 ≡ 0
aligned zero page h e = omega arith
aligned (suc zero) page h e = omega arith
aligned (suc (suc zero)) page h e = omega arith
aligned (suc (suc (suc d))) page h e = omega arith

none_begins : (d page : ℕ) → d < 3 → 0 < page % 512 → (false || first_page (block_at (suc d) page) == page) ≡ false
none_begins d page h k = grind (arith, nat_tests, aligned d page h)

none_met : (top page : ℕ) → top ≤ 3 → 0 < page % 512 → met false top page ≡ []
none_met zero page h k = refl
none_met (suc d) page h k = rw (none_begins d page (omega arith) k) (none_met d page (omega arith) k)

on_skip : (top first n m : ℕ)
    → top ≤ 3
    → 0 < n
    → ((k : ℕ) → k < m → 0 < (first + n + k) % 512)
    → blocks_on top first (n + m) ≡ blocks_on top first n
on_skip top first n zero h some off = let e : n + 0 ≡ n = omega arith in rw e refl
on_skip top first n (suc m) h some off =
    let e : n + suc m ≡ n + 1 + m = omega arith in
    let z : (n == 0) ≡ false = grind (arith, nat_tests) in
    let a : first + n + 0 ≡ first + n = omega arith in
    let one : 0 < (first + n) % 512 = rw a at (off 0 (omega arith)) in
    let more = on_more top first n in
    let same : blocks_on top first n ≡ blocks_on top first (n + 1) =
    sym (append-nil (blocks_on top first n)) ∙ (rw (z, none_met top (first + n) h one) at more) in
    let rest : (k : ℕ) → k < m → 0 < (first + (n + 1) + k) % 512 =
    λ k less.
    (let b : first + n + suc k ≡ first + (n + 1) + k = omega arith in rw b at (off (suc k) (omega arith))) in
    rw e (on_skip top first (n + 1) m h (omega arith) rest ∙ sym same)

-- the first page, and what begins at the next multiples of 512

pub on_first : (top first count : ℕ)
    → top ≤ 3
    → 0 < count
    → met true top first ≡ blocks_on top first (min ((first / 512 + 1) * 512 - first) count)
unfolding blocks_on
on_first top first count h some =
    let n : ℕ = min ((first / 512 + 1) * 512 - first) count in
    let e : 1 + (n - 1) ≡ n = omega arith in
    let off : (k : ℕ) → k < n - 1 → 0 < (first + 1 + k) % 512 = λ k less. omega arith in
    let one = on_more top first 0 in
    let a : first + 0 ≡ first = omega arith in
    (rw a at one) ∙ sym (on_skip top first 1 (n - 1) h (omega arith) off) ∙ ap (λ x. blocks_on top first x) e

pub on_next : (top first count i : ℕ)
    → top ≤ 3
    → first / 512 + 1 ≤ i
    → i * 512 < first + count
    → blocks_on top first (min (i * 512 - first) count) ++ met false top (i * 512)
    ≡ blocks_on top first (min ((i + 1) * 512 - first) count)
on_next top first count i h after less =
    let n : ℕ = i * 512 - first in
    let m : ℕ = min ((i + 1) * 512 - first) count in
    let a : min (i * 512 - first) count ≡ n = omega arith in
    let b : first + n ≡ i * 512 = omega arith in
    let z : (n == 0) ≡ false = grind (arith, nat_tests) in
    let e : n + 1 + (m - (n + 1)) ≡ m = omega arith in
    let off : (k : ℕ) → k < m - (n + 1) → 0 < (first + (n + 1) + k) % 512 = λ k less. omega arith in
    let more = on_more top first n in
    rw a
    ((rw (b, z) at more) ∙ sym (on_skip top first (n + 1) (m - (n + 1)) h (omega arith) off)
    ∙ ap (λ x. blocks_on top first x) e)

-- one depth more
module _ (all : Bool) (page top i : ℕ) (within : i < top) (items : List Block) where
  one_less : top - i ≡ suc (top - (i + 1))
  one_less = omega arith

  pub met_more : (all || first_page (top - i, page / block_pages (top - i)) == page) ≡ true
      → (items ++ (top - i, page / block_pages (top - i)) ∷ []) ++ met all (top - (i + 1)) page
      ≡ items ++ met all (top - i) page
  met_more h = append_assoc items ((top - i, page / block_pages (top - i)) ∷ []) (met all (top - (i + 1)) page)
      ∙ ap (λ xs. items ++ xs) (let g = rw one_less at h in rw one_less (rw g refl))

  pub met_same : (all || first_page (top - i, page / block_pages (top - i)) == page) ≡ false
      → items ++ met all (top - (i + 1)) page ≡ items ++ met all (top - i) page
  met_same h = ap (λ xs. items ++ xs) (let g = rw one_less at h in rw one_less (rw g refl))

-- the blocks are low

pub low_block : (d page : ℕ) → d ≤ 3 → page ≤ 2 ^ 63 → IsLowBlock (d, page / block_pages d)
low_block d page h k = (h, omega (arith, div-mul-le_self page (block_pages d)))

low_with : (d page : ℕ) → d ≤ 3 → page ≤ 2 ^ 63 → All IsLowBlock (blocks_with d page)
low_with zero page h k = All-nil IsLowBlock
low_with (suc d) page h k =
    All-cons IsLowBlock (block_at (suc d) page) (blocks_with d page) (low_block (suc d) page h k)
    (low_with d page (omega arith) k)

low_along : (top page n : ℕ) → top ≤ 3 → page + n ≤ 2 ^ 63 → All IsLowBlock (blocks_along top page n)
low_along top page zero h k = All-nil IsLowBlock
low_along top page (suc n) h k =
    All-append IsLowBlock (blocks_from top page) (blocks_along top (page + 1) n)
    (All-filter (λ (b : Block). first_page b == page) IsLowBlock (blocks_with top page)
    (low_with top page h (omega arith)))
    (low_along top (page + 1) n h (omega arith))

pub low_on : (top first n : ℕ) → top ≤ 3 → first + n ≤ 2 ^ 63 → All IsLowBlock (blocks_on top first n)
unfolding blocks_on
low_on top first zero h k = All-nil IsLowBlock
low_on top first (suc n) h k =
    All-append IsLowBlock (blocks_with top first) (blocks_along top (first + 1) n) (low_with top first h (omega arith))
    (low_along top (first + 1) n h (omega arith))
