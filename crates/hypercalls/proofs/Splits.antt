-- How many blocks a range meets.
use Rattle.std.proofs.Common.{◌≡◌, ◌∙◌, ◌≢◌, ℕ, zero, suc, ◌+◌, ◌*◌, ◌/◌, ◌%◌, ◌<◌, ◌≤◌, refl, ap, sym, arith, List, [], ◌∷◌, length, length-append}
use Rattle.std.specs.Prelude.{Bool, true, false, ◌==◌, filter, if◌then◌else◌}
use Rattle.page_state.specs.Blocks.{block_at, blocks_along, blocks_from, blocks_on, blocks_with, first_page}
use Rattle.page_state.specs.Geometries.{block_pages}
use Rattle.page_state.specs.Trees.{Block}
use Rattle.page_state.proofs.Cases.{by_eq, by_test}
use Rattle.page_state.proofs.Common.{eq-same}
use Rattle.page_state.proofs.Sizes.{size_step}

pub fewer : {X : Type 0} (test : X → Bool) (xs : List X) → length (filter test xs) ≤ length xs
fewer test [] = omega arith
fewer test (x ∷ xs) = go (test x) (fewer test xs)
  where
    go : (b : Bool)
        → length (filter test xs) ≤ length xs
        → length (if b then x ∷ filter test xs else filter test xs) ≤ suc (length xs)
    go true h = omega arith
    go false h = omega arith

with_many : (d page : ℕ) → length (blocks_with d page) ≡ d
with_many zero page = refl
with_many (suc d) page = ap suc (with_many d page)

-- no block begins on a page between those of 512 pages
not_first : (d p : ℕ) → p % 512 ≢ 0 → (first_page (block_at (suc d) p) == p) ≡ false
not_first d p h = by_test (first_page (block_at (suc d) p) == p)
    (λ e.
    let is : p / block_pages (suc d) * block_pages (suc d) ≡ p =
    eq-same (p / block_pages (suc d) * block_pages (suc d)) p e in
    let more : p / block_pages (suc d) * block_pages (suc d) ≡ p / block_pages (suc d) * (512 * block_pages d) =
    ap (λ n. p / block_pages (suc d) * n) (size_step d) in
    let times : p / block_pages (suc d) * (512 * block_pages d) ≡ p / block_pages (suc d) * block_pages d * 512 =
    omega arith in
    absurd
    (h
    (let all : p ≡ p / block_pages (suc d) * block_pages d * 512 = omega (arith, is, more, times) in
    omega (arith, all))))
    (λ e. e)

from_none : (d p : ℕ) → p % 512 ≢ 0 → blocks_from d p ≡ []
from_none zero p h = refl
from_none (suc d) p h =
    ap
    (λ (t : Bool). if t then block_at (suc d) p ∷ filter (λ (b : Block). first_page b == p) (blocks_with d p)
    else filter (λ (b : Block). first_page b == p) (blocks_with d p))
    (not_first d p h)
    ∙ from_none d p h

along_none : (top p m : ℕ) → ((i : ℕ) → i < m → (p + i) % 512 ≢ 0) → blocks_along top p m ≡ []
along_none top p zero h = refl
along_none top p (suc m) h =
    let here : p + 0 ≡ p = omega arith in
    let next = λ (i : ℕ). (let e : p + 1 + i ≡ p + (i + 1) = omega arith in e) in
    let a : blocks_from top p ≡ [] = from_none top p (λ e. h 0 (omega arith) (ap (λ k. k % 512) here ∙ e)) in
    let b : blocks_along top (p + 1) m ≡ [] =
    along_none top (p + 1) m (λ i l e. h (i + 1) (omega (arith, l)) (ap (λ k. k % 512) (sym (next i)) ∙ e)) in
    rw (a, b) refl

-- of fewer pages than the smallest block has, one at most is the first page of blocks
along_few : (top p m : ℕ) → m ≤ 511 → length (blocks_along top p m) ≤ top
along_few top p zero h = omega arith
along_few top p (suc m) h =
    let both = length-append (blocks_from top p) (blocks_along top (p + 1) m) in
    by_eq (p % 512) 0
    (λ e.
    let rest = ap length (along_none top (p + 1) m (λ i l x. absurd (omega (arith, e, h, l, x)))) in
    let first : length (blocks_from top p) ≤ length (blocks_with top p) = fewer _ (blocks_with top p) in
    omega (arith, both, rest, first, with_many top p))
    (λ n.
    let none = ap length (from_none top p n) in
    let rest = along_few top (p + 1) m (omega (arith, h)) in
    omega (arith, both, none, rest))

-- a page lies in a block of each size, and a range of up to 512 pages meets two at most
pub on_page : (top p : ℕ) → length (blocks_on top p 1) ≤ top
unfolding blocks_on
on_page top p = let both = length-append (blocks_with top p) [] in omega (arith, both, with_many top p)

pub on_range : (top p n : ℕ) → n ≤ 512 → length (blocks_on top p n) ≤ 2 * top
unfolding blocks_on
on_range top p zero h = omega arith
on_range top p (suc m) h =
    let both = length-append (blocks_with top p) (blocks_along top (p + 1) m) in
    let rest = along_few top (p + 1) m (omega (arith, h)) in
    omega (arith, both, with_many top p, rest)
