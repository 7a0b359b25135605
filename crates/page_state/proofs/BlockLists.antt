-- The blocks on a range are those that meet it, by page, the parent before the child.
use Rattle.std.proofs.Common.{◌≡◌, ℕ, zero, suc, ◌+◌, ◌-◌, ◌*◌, ◌/◌, ◌≤◌, ◌<◌, refl, ap, sym, ◌∙◌, subst, arith, inl, inr, List, [], ◌∷◌, ◌++◌, length, filter, All, Contains, AllPairs, slice_index_or, mul_comm, mul_assoc, mul-le-mul_right, div-mul-le_self, mul-div_cancel}
use Rattle.std.specs.Prelude.{Bool, true, ◌==◌}
use Rattle.std.proofs.Math.Nat.{div-div-eq-div-mul, lt-div-mul-add}
use Rattle.std.proofs.lemmas.Nat.{div-mul-add}
use Rattle.std.proofs.lemmas.List.Elements.{All-nil, All-cons, All-append, All-weaker, All-contains, All-filter, filter_passes, Contains-append_left, Contains-append_right}
use Rattle.std.proofs.lemmas.List.Kept.{AllPairs-cons, AllPairs-filter}
use Rattle.page_state.specs.Trees.{Block}
use Rattle.page_state.specs.Geometries.{block_pages}
use Rattle.page_state.specs.Blocks.{span, first_page, block_at, blocks_with, blocks_from, blocks_along, blocks_on}
use Rattle.page_state.specs.Laws.{BlocksMeet, ComesBefore, BlocksOrdered}
use Rattle.page_state.proofs.Common.{both, eq-self, eq-same}
use Rattle.page_state.proofs.Runs.{order}
use Rattle.page_state.proofs.BlockTests.{block-same}
use Rattle.page_state.proofs.Sizes.{size_some, size_split}

-- numbers

quotient-once : (q s n : ℕ) → q * s ≤ n → n < q * s + s → q ≡ n / s
quotient-once q s n low high =
    let e : n ≡ q * s + (n - q * s) = omega arith in
    let less : n - q * s < s = omega arith in
    sym (ap (λ k. k / s) e ∙ div-mul-add q s (n - q * s) less)

-- the greater block of a page begins no later
begins-sooner : (page d e : ℕ) → e ≤ d → page / block_pages d * block_pages d ≤ page / block_pages e * block_pages e
begins-sooner page d e h =
    let power : block_pages d ≡ block_pages e * block_pages (d - e) =
    size_split d e h ∙ mul_comm (block_pages (d - e)) (block_pages e) in
    let quotient : page / block_pages d ≡ page / block_pages e / block_pages (d - e) =
    ap (λ n. page / n) power ∙ sym (div-div-eq-div-mul page (block_pages e) (block_pages (d - e))) in
    let product : page / block_pages d * block_pages d ≡ page / block_pages e / block_pages (d - e) * block_pages (d - e) * block_pages e =
    ap (λ n. n * block_pages d) quotient
    ∙ ap (λ n. page / block_pages e / block_pages (d - e) * n)
    (power ∙ mul_comm (block_pages e) (block_pages (d - e)))
    ∙ sym (mul_assoc (page / block_pages e / block_pages (d - e)) (block_pages (d - e)) (block_pages e)) in
    subst (λ n. n ≤ page / block_pages e * block_pages e) (sym product)
    (mul-le-mul_right (block_pages e) (div-mul-le_self (page / block_pages e) (block_pages (d - e))))

-- lists

contains-cons : {X : Type 0} (x : X) (xs : List X) (y : X) → Contains xs y → Contains (x ∷ xs) y
contains-cons x xs y h = let less : h.0 < length xs = h.1 in (suc h.0, omega arith, h.2)

filter-here : {X : Type 0} (p : X → Bool) (x y : X) (xs : List X) → y ≡ x → p x ≡ true → Contains (filter p (y ∷ xs)) x
filter-here p x y xs e t =
    let passes : p y ≡ true = ap p e ∙ t in
    rw passes (0, omega arith, e)

filter-later : {X : Type 0} (p : X → Bool) (x y : X) (xs : List X)
    → Contains (filter p xs) x
    → Contains (filter p (y ∷ xs)) x
filter-later p x y xs c = elim (both (p y)) [ inl a ↦ rw a (contains-cons y (filter p xs) x c) | inr a ↦ rw a c ]

filter-at : {X : Type 0} (p : X → Bool) (xs : List X) (x : X) (k : ℕ)
    → k < length xs
    → slice_index_or xs k x ≡ x
    → p x ≡ true
    → Contains (filter p xs) x
filter-at p [] x k less e t = absurd (omega arith)
filter-at p (y ∷ xs) x zero less e t = filter-here p x y xs e t
filter-at p (y ∷ xs) x (suc k) less e t = filter-later p x y xs (filter-at p xs x k (omega arith) e t)

pub contains-filter : {X : Type 0} (p : X → Bool) (xs : List X) (x : X)
    → Contains xs x
    → p x ≡ true
    → Contains (filter p xs) x
contains-filter p xs x h t = filter-at p xs x h.0 h.1 h.2 t

pairs-head : {X : Type 0} (R : X → X → Type 0) (x : X) (xs : List X) → AllPairs R (x ∷ xs) → All (R x) xs
pairs-head R x xs h k d less = h 0 (suc k) d (omega arith) (omega arith)

pairs-tail : {X : Type 0} (R : X → X → Type 0) (x : X) (xs : List X) → AllPairs R (x ∷ xs) → AllPairs R xs
pairs-tail R x xs h i j d a b = h (suc i) (suc j) d (omega arith) (omega arith)

pairs-nil : {X : Type 0} (R : X → X → Type 0) → AllPairs R []
pairs-nil R i j d a b = absurd (omega arith)

pairs-append : {X : Type 0} (R : X → X → Type 0) (xs ys : List X)
    → AllPairs R xs
    → AllPairs R ys
    → All (λ x. All (R x) ys) xs
    → AllPairs R (xs ++ ys)
pairs-append R [] ys a b c = b
pairs-append R (x ∷ xs) ys a b c =
    let more : AllPairs R (xs ++ ys) =
    pairs-append R xs ys (pairs-tail R x xs a) b (λ k d less. c (suc k) d (omega arith)) in
    AllPairs-cons R x (xs ++ ys) (All-append (R x) xs ys (pairs-head R x xs a) (c 0 x (omega arith))) more

-- the blocks that hold a page

record Holds (d page : ℕ) (b : Block) : Type 0 where
  deep : 1 ≤ b.0
  shallow : b.0 ≤ d
  at : b.1 ≡ page / block_pages b.0

with-holds : (d page : ℕ) → All (Holds d page) (blocks_with d page)
with-holds zero page = All-nil (Holds 0 page)
with-holds (suc d) page =
    let here : Holds (suc d) page (block_at (suc d) page) =
    record { deep = omega arith; shallow = omega arith; at = refl } in
    let wider : (b : Block) → Holds d page b → Holds (suc d) page b =
    λ b h. record { deep = h.deep; shallow = omega (arith, h.shallow); at = h.at } in
    All-cons (Holds (suc d) page) (block_at (suc d) page) (blocks_with d page) here
    (All-weaker (Holds d page) (Holds (suc d) page) wider (blocks_with d page) (with-holds d page))

holds-with : (d page : ℕ) (b : Block) → Holds d page b → Contains (blocks_with d page) b
holds-with zero page b h = absurd (omega (arith, h.deep, h.shallow))
holds-with (suc d) page b h = elim (order d b.0) [
  | inl p ↦
      let e : suc d ≡ b.0 = omega (arith, h.shallow) in
      (0, omega arith, block-same e (ap (λ n. page / block_pages n) e ∙ sym h.at))
  | inr p ↦ contains-cons (block_at (suc d) page) (blocks_with d page) b
      (holds-with d page b (record { deep = h.deep; shallow = p; at = h.at }))
]

with-ordered : (d page : ℕ) → AllPairs ComesBefore (blocks_with d page)
with-ordered zero page = pairs-nil ComesBefore
with-ordered (suc d) page =
    let before : (b : Block) → Holds d page b → ComesBefore (block_at (suc d) page) b = λ b h.
    let begins : first_page b ≡ page / block_pages b.0 * block_pages b.0 = ap (λ n. n * block_pages b.0) h.at in
    let sooner : page / block_pages (suc d) * block_pages (suc d) ≤ page / block_pages b.0 * block_pages b.0 =
    begins-sooner page (suc d) b.0 (omega (arith, h.shallow)) in
    elim (order (page / block_pages (suc d) * block_pages (suc d)) (page / block_pages b.0 * block_pages b.0)) [
      | inl p ↦ inl (subst (λ n. page / block_pages (suc d) * block_pages (suc d) < n) (sym begins) p)
      | inr p ↦ let same : page / block_pages (suc d) * block_pages (suc d) ≡ page / block_pages b.0 * block_pages b.0 =
          omega arith in
          inr (same ∙ sym begins, omega (arith, h.shallow))
    ] in
    AllPairs-cons ComesBefore (block_at (suc d) page) (blocks_with d page)
    (All-weaker (Holds d page) (ComesBefore (block_at (suc d) page)) before (blocks_with d page)
    (with-holds d page))
    (with-ordered d page)

-- the blocks that begin on some pages

record Begins (top page n : ℕ) (b : Block) : Type 0 where
  deep : 1 ≤ b.0
  shallow : b.0 ≤ top
  low : page ≤ first_page b
  high : first_page b < page + n

from-begins : (top page : ℕ) → All (Begins top page 1) (blocks_from top page)
from-begins top page k d less =
    let b : Block = slice_index_or (blocks_from top page) k d in
    let h : Holds top page b =
    All-filter (λ b. first_page b == page) (Holds top page) (blocks_with top page) (with-holds top page) k d less in
    let e : first_page b ≡ page =
    eq-same (first_page b) page (filter_passes (λ b. first_page b == page) (blocks_with top page) k d less) in
    record { deep = h.deep; shallow = h.shallow; low = omega arith; high = omega arith }

begins-from : (top page : ℕ) (b : Block) → Begins top page 1 b → Contains (blocks_from top page) b
begins-from top page b h =
    let low : page ≤ first_page b = h.low in
    let high : first_page b < page + 1 = h.high in
    let e : first_page b ≡ page = omega arith in
    let at : b.1 ≡ page / block_pages b.0 =
    sym (ap (λ n. n / block_pages b.0) (sym e) ∙ mul-div_cancel b.1 (size_some b.0)) in
    contains-filter (λ b. first_page b == page) (blocks_with top page) b
    (holds-with top page b (record { deep = h.deep; shallow = h.shallow; at = at })) (rw e (eq-self page))

along-begins : (top page n : ℕ) → All (Begins top page n) (blocks_along top page n)
along-begins top page zero = All-nil (Begins top page 0)
along-begins top page (suc n) =
    let first : (b : Block) → Begins top page 1 b → Begins top page (suc n) b =
    λ b h. let high : first_page b < page + 1 = h.high in
    record { deep = h.deep; shallow = h.shallow; low = h.low; high = omega arith } in
    let other : (b : Block) → Begins top (page + 1) n b → Begins top page (suc n) b =
    λ b h. let low : page + 1 ≤ first_page b = h.low in
    let high : first_page b < page + 1 + n = h.high in
    record { deep = h.deep; shallow = h.shallow; low = omega arith; high = omega arith } in
    All-append (Begins top page (suc n)) (blocks_from top page) (blocks_along top (page + 1) n)
    (All-weaker (Begins top page 1) (Begins top page (suc n)) first (blocks_from top page) (from-begins top page))
    (All-weaker (Begins top (page + 1) n) (Begins top page (suc n)) other (blocks_along top (page + 1) n)
    (along-begins top (page + 1) n))

begins-along : (top page n : ℕ) (b : Block) → Begins top page n b → Contains (blocks_along top page n) b
begins-along top page zero b h =
    absurd (let low : page ≤ first_page b = h.low in let high : first_page b < page + 0 = h.high in omega arith)
begins-along top page (suc n) b h =
    let low : page ≤ first_page b = h.low in
    let high : first_page b < page + suc n = h.high in
    elim (order page (first_page b)) [
      | inl p ↦ Contains-append_right (blocks_from top page) (blocks_along top (page + 1) n) b
          (begins-along top (page + 1) n b
          (record { deep = h.deep; shallow = h.shallow; low = omega arith; high = omega arith }))
      | inr p ↦ Contains-append_left (blocks_from top page) (blocks_along top (page + 1) n) b
          (begins-from top page b (record { deep = h.deep; shallow = h.shallow; low = low; high = omega arith }))
    ]

-- blocks that begin later come after
later : (xs ys : List Block) (page : ℕ)
    → All (λ b. first_page b ≤ page) xs
    → All (λ b. page + 1 ≤ first_page b) ys
    → All (λ a. All (ComesBefore a) ys) xs
later xs ys page h k i d less j e more =
    let a : first_page (slice_index_or xs i d) ≤ page = h i d less in
    let b : page + 1 ≤ first_page (slice_index_or ys j e) = k j e more in
    inl (omega arith)

along-later : (top page n : ℕ) → All (λ b. page ≤ first_page b) (blocks_along top page n)
along-later top page n =
    All-weaker (Begins top page n) (λ b. page ≤ first_page b) (λ b h. h.low) (blocks_along top page n)
    (along-begins top page n)

along-ordered : (top page n : ℕ) → AllPairs ComesBefore (blocks_along top page n)
along-ordered top page zero = pairs-nil ComesBefore
along-ordered top page (suc n) =
    let here : All (λ b. first_page b ≤ page) (blocks_from top page) =
    All-weaker (Begins top page 1) (λ b. first_page b ≤ page)
    (λ b h. let high : first_page b < page + 1 = h.high in omega arith) (blocks_from top page)
    (from-begins top page) in
    pairs-append ComesBefore (blocks_from top page) (blocks_along top (page + 1) n)
    (AllPairs-filter ComesBefore (λ b. first_page b == page) (blocks_with top page) (with-ordered top page))
    (along-ordered top (page + 1) n)
    (later (blocks_from top page) (blocks_along top (page + 1) n) page here (along-later top (page + 1) n))

-- the blocks on a range

abbrev Meets : ℕ → ℕ → ℕ → Block → Type 0
Meets top first count b = (1 ≤ b.0) × (b.0 ≤ top) × (first_page b < first + count) × (first < first_page b + span b)

holds-low : (d page : ℕ) (b : Block) → Holds d page b → first_page b ≤ page
holds-low d page b h = subst (λ n. n * block_pages b.0 ≤ page) (sym h.at) (div-mul-le_self page (block_pages b.0))

holds-high : (d page : ℕ) (b : Block) → Holds d page b → page < first_page b + span b
holds-high d page b h =
    subst (λ n. page < n * block_pages b.0 + block_pages b.0) (sym h.at)
    (lt-div-mul-add {a = page} {b = block_pages b.0} (size_some b.0))

on-meets : (top first n : ℕ) → All (Meets top first (suc n)) (blocks_with top first ++ blocks_along top (first + 1) n)
on-meets top first n =
    let here : (b : Block) → Holds top first b → Meets top first (suc n) b = λ b h. let low = holds-low top first b h in
    (h.deep, h.shallow, omega arith, holds-high top first b h) in
    let there : (b : Block) → Begins top (first + 1) n b → Meets top first (suc n) b =
    λ b h. let low : first + 1 ≤ first_page b = h.low in
    let high : first_page b < first + 1 + n = h.high in
    (h.deep, h.shallow, omega arith, omega arith) in
    All-append (Meets top first (suc n)) (blocks_with top first) (blocks_along top (first + 1) n)
    (All-weaker (Holds top first) (Meets top first (suc n)) here (blocks_with top first) (with-holds top first))
    (All-weaker (Begins top (first + 1) n) (Meets top first (suc n)) there (blocks_along top (first + 1) n)
    (along-begins top (first + 1) n))

meets-on : (top first n : ℕ) (b : Block)
    → Meets top first (suc n) b
    → Contains (blocks_with top first ++ blocks_along top (first + 1) n) b
meets-on top first n b h =
    let low : first_page b < first + suc n = h.2 in
    let high : first < first_page b + span b = h.3 in
    elim (order first (first_page b)) [
      | inl p ↦ Contains-append_right (blocks_with top first) (blocks_along top (first + 1) n) b
          (begins-along top (first + 1) n b
          (record { deep = h.0; shallow = h.1; low = omega arith; high = omega arith }))
      | inr p ↦ Contains-append_left (blocks_with top first) (blocks_along top (first + 1) n) b
          (holds-with top first b
          (record { deep = h.0; shallow = h.1; at = quotient-once b.1 (block_pages b.0) first p high }))
    ]

pub blocks_meet : BlocksMeet
unfolding blocks_on
blocks_meet top first zero b h = absurd (omega arith)
blocks_meet top first (suc n) b h = (
  All-contains (Meets top first (suc n)) (blocks_with top first ++ blocks_along top (first + 1) n) b
      (on-meets top first n),
  meets-on top first n b,
)

pub blocks_ordered : BlocksOrdered
unfolding blocks_on
blocks_ordered top first zero = pairs-nil ComesBefore
blocks_ordered top first (suc n) =
    let here : All (λ b. first_page b ≤ first) (blocks_with top first) =
    All-weaker (Holds top first) (λ b. first_page b ≤ first) (holds-low top first) (blocks_with top first)
    (with-holds top first) in
    pairs-append ComesBefore (blocks_with top first) (blocks_along top (first + 1) n) (with-ordered top first)
    (along-ordered top (first + 1) n)
    (later (blocks_with top first) (blocks_along top (first + 1) n) first here (along-later top (first + 1) n))
