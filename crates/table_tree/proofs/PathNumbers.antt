-- The numbers of paths, and the pages under them.
use Rattle.std.proofs.Common.{◌≡◌, ℕ, zero, suc, ◌+◌, ◌-◌, ◌*◌, ◌/◌, ◌<◌, List, [], ◌∷◌, length, All, refl, sym, ap, arith, ◌∙◌, fold}
use Rattle.std.proofs.Math.Nat.{div-div-eq-div-mul, div-lt_iff_lt-mul}
use Rattle.page_state.specs.Geometries.{block_pages}
use Rattle.page_state.proofs.Sizes.{size_some, size_step, size_add}
use Rattle.table_tree.specs.Meaning.{index_at}
use Rattle.table_tree.specs.inner.Pokes.{Leads}

-- the number of the digits after those of `a`
abbrev pub number_from : ℕ → List ℕ → ℕ
number_from a path = fold (λ n i. n * 512 + i) a path

-- each index is below 512
unfoldable pub Small : List ℕ → Type 0
Small [] = Unit {0}
Small (i ∷ rest) = (i < 512) × Small rest

pub all_small : (p : List ℕ) → Small p → All (λ i. i < 512) p
unfolding Small
all_small [] h k d l = absurd (omega arith)
all_small (i ∷ r) h zero d l = h.0
all_small (i ∷ r) h (suc k) d l = all_small r h.1 k d (omega arith)

pub small_all : (p : List ℕ) → All (λ i. i < 512) p → Small p
unfolding Small
small_all [] h = tt
small_all (i ∷ r) h = (h 0 i (omega arith), small_all r (λ k d l. h (suc k) d (omega arith)))

pub top : (a : ℕ) (p : List ℕ) → Small p → number_from a p / block_pages (length p) ≡ a
unfolding Small
top a [] h = omega arith
top a (i ∷ r) h =
    let e : block_pages (suc (length r)) ≡ block_pages (length r) * 512 = let x = size_step (length r) in
    omega (arith, x) in
    let x : number_from (a * 512 + i) r / block_pages (length r) ≡ a * 512 + i = top (a * 512 + i) r h.1 in
    rw e
    (sym (div-div-eq-div-mul (number_from (a * 512 + i) r) (block_pages (length r)) 512) ∙ ap (λ n. n / 512) x
    ∙ omega (arith, h.0))

index_is : (n m q a i : ℕ) (r : List ℕ)
    → m + length r ≡ n
    → i < 512
    → Small r
    → q / block_pages m ≡ number_from a (i ∷ r)
    → index_at n q ≡ i
index_is n m q a i r e h s k =
    let x : q / block_pages n ≡ a * 512 + i =
    ap (λ d. q / block_pages d) (sym e) ∙ ap (λ z. q / z) (size_add m (length r))
    ∙ sym (div-div-eq-div-mul q (block_pages m) (block_pages (length r)))
    ∙ ap (λ z. z / block_pages (length r)) k ∙ top (a * 512 + i) r s in
    rw x (omega (arith, h))

pub leads : (n m q a : ℕ) (p : List ℕ)
    → m + length p ≡ n + 1
    → Small p
    → q / block_pages m ≡ number_from a p
    → Leads n q p
unfolding Leads Small
leads n m q a [] e h k = tt
leads n m q a (i ∷ []) e h k = (index_is n m q a i [] (omega arith) h.0 h.1 k, tt)
leads n m q a (i ∷ j ∷ r) e h k =
    (index_is n m q a i (j ∷ r) (omega arith) h.0 h.1 k, leads (n - 1) m q (a * 512 + i) (j ∷ r) (omega arith) h.1 k)

-- blocks of one depth that are one have one index in each table above them
pub index_same : (n m p q : ℕ) → m < n → p / block_pages (m + 1) ≡ q / block_pages (m + 1) → index_at n p ≡ index_at n q
index_same n m p q l e =
    let x : n ≡ (m + 1) + (n - (m + 1)) = omega arith in
    let s : block_pages n ≡ block_pages (m + 1) * block_pages (n - (m + 1)) =
    ap block_pages x ∙ size_add (m + 1) (n - (m + 1)) in
    rw (
      s,
      sym (div-div-eq-div-mul p (block_pages (m + 1)) (block_pages (n - (m + 1)))),
      sym (div-div-eq-div-mul q (block_pages (m + 1)) (block_pages (n - (m + 1)))),
      e,
    ) refl

-- a path's number is below the number of blocks
pub number_small : (p : List ℕ) → Small p → number_from 0 p < block_pages (length p)
number_small p h =
    let s = size_some (length p) in
    let l : number_from 0 p / block_pages (length p) < 1 = let x = top 0 p h in omega (arith, x) in
    let y : number_from 0 p < 1 * block_pages (length p) = (div-lt_iff_lt-mul s).0 l in
    omega (arith, y)
