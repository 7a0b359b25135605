-- Where the frames of a pool, of a tree's tables and of what is searched for them stand.
use Rattle.std.proofs.Common.{◌≡◌, ℕ, zero, suc, ◌+◌, ◌-◌, ◌≤◌, ◌<◌, refl, ap, sym, ◌∙◌, arith, inl, inr, List, [], ◌∷◌, length, drop, Contains, slice_index_or}
use Rattle.std.specs.Prelude.{Bool, true, false, ◌&&◌, ◌==◌, nat_lt, ◌⊎◌, Option, Some, None, if◌then◌else◌}
use Rattle.std.proofs.lemmas.Bool.Decides.{nat_tests}
use Rattle.page_state.specs.Trees.{Block, Tree, Pool, frames_from, root_tree}
use Rattle.page_state.specs.Geometries.{block_pages}
use Rattle.page_state.specs.Layouts.{Layout}
use Rattle.page_state.specs.Search.{count_below, first_from}
use Rattle.page_state.specs.Blocks.{block_eq}
use Rattle.page_state.specs.Tables.{Edit, needs, need, freed, placed, cleared, edited}
use Rattle.reference_model.specs.model.Owner.{count_blocks, is_frame, is_table_frame, is_free}
use Rattle.page_state.proofs.Common.{both, eq-same, and-both}
use Rattle.page_state.proofs.BlockTests.{block-same, block_eq-same}

-- searches

pub first_from-none : (from n : ℕ) (test : ℕ → Bool) → ((i : ℕ) → test i ≡ false) → first_from from n test ≡ None
first_from-none from zero test h = refl
first_from-none from (suc n) test h = rw (first_from, h from) (first_from-none (suc from) n test h)

pub count_below-none : (n : ℕ) (test : ℕ → Bool) → ((i : ℕ) → test i ≡ false) → count_below n test ≡ 0
count_below-none zero test h = refl
count_below-none (suc n) test h = rw (count_below, h n) (omega (arith, count_below-none n test h))

pub count_blocks-none : (top d : ℕ) (test : Block → Bool) → ((b : Block) → test b ≡ false) → count_blocks top d test ≡ 0
count_blocks-none top zero test h = refl
count_blocks-none top (suc d) test h =
    omega (
      arith,
      count_below-none (block_pages (top - suc d)) (λ i. test (suc d, i)) (λ i. h (suc d, i)),
      count_blocks-none top d test h,
    )

-- a number of which the test holds, where some are counted
pub count_below-some : (n : ℕ) (test : ℕ → Bool) → 0 < count_below n test → (i : ℕ) × (test i ≡ true)
count_below-some zero test h = absurd (omega arith)
count_below-some (suc n) test h = elim (both (test n)) [
  | inl t ↦ (n, t)
  | inr f ↦ let more : 0 < 0 + count_below n test = rw f at h in count_below-some n test (omega arith)
]

pub count_blocks-some : (top d : ℕ) (test : Block → Bool) → 0 < count_blocks top d test → (b : Block) × (test b ≡ true)
count_blocks-some top zero test h = absurd (omega arith)
count_blocks-some top (suc d) test h =
    elim (both (nat_lt 0 (count_below (block_pages (top - suc d)) (λ i. test (suc d, i))))) [
      | inl t ↦ let found =
          count_below-some (block_pages (top - suc d)) (λ i. test (suc d, i)) (grind (arith, nat_tests)) in
          ((suc d, found.0), found.1)
      | inr f ↦ count_blocks-some top d test (grind (arith, nat_tests))
    ]

-- a tree without a table has no table frame
pub is_table_frame-none : (l : Layout) (t : Tree) (f : ℕ)
    → ((b : Block) → t.table b ≡ None)
    → is_table_frame l t f ≡ false
is_table_frame-none l t f h =
    let none : count_blocks (l.depth + 1) (l.depth + 1) (λ b. is_frame f (t.table b)) ≡ 0 =
    count_blocks-none (l.depth + 1) (l.depth + 1) (λ b. is_frame f (t.table b)) (λ b. ap (is_frame f) (h b)) in
    ap (nat_lt 0) none

is_frame-same : (f : ℕ) (o : Option ℕ) → is_frame f o ≡ true → o ≡ Some f
is_frame-same f None h = cc
is_frame-same f (Some g) h = ap Some (eq-same g f h)

-- a table frame has its block
pub is_table_frame-block : (l : Layout) (t : Tree) (f : ℕ)
    → is_table_frame l t f ≡ true
    → (b : Block) × (t.table b ≡ Some f)
is_table_frame-block l t f h =
    let found =
    count_blocks-some (l.depth + 1) (l.depth + 1) (λ b. is_frame f (t.table b)) (grind (arith, nat_tests)) in
    (found.0, is_frame-same f (t.table found.0) found.1)

-- a free frame is in its pool
pub is_free-contains : (free : Pool) (f : ℕ) → is_free free f ≡ true → Contains free f
is_free-contains [] f h = cc
is_free-contains (g ∷ gs) f h = elim (both (g == f)) [
  | inl e ↦ (0, omega arith, eq-same g f e)
  | inr e ↦
      let more : is_free gs f ≡ true = rw e at h in
      let found = is_free-contains gs f more in
      let k : found.0 < length gs = found.1 in
      (suc found.0, omega arith, found.2)
]

-- consecutive frames

pub drop-frames : (k first n : ℕ) → drop k (frames_from first n) ≡ frames_from (first + k) (n - k)
drop-frames zero first n =
    let a : first + 0 ≡ first = omega arith in
    let b : n - 0 ≡ n = omega arith in
    rw (a, b)
drop-frames (suc k) first zero =
    let b : 0 - suc k ≡ 0 = omega arith in
    rw b
drop-frames (suc k) first (suc n) =
    let a : first + suc k ≡ first + 1 + k = omega arith in
    let b : suc n - suc k ≡ n - k = omega arith in
    rw (a, b) (drop-frames k (first + 1) n)

pub frame-at : (first n k d : ℕ)
    → k < length (frames_from first n)
    → (slice_index_or (frames_from first n) k d ≡ first + k) × (k < n)
frame-at first zero k d h = absurd (omega arith)
frame-at first (suc n) zero d h = (omega arith, omega arith)
frame-at first (suc n) (suc k) d h =
    let more = frame-at (first + 1) n k d (omega arith) in
    let e : slice_index_or (frames_from (first + 1) n) k d ≡ first + 1 + k = more.0 in
    let b : k < n = more.1 in
    (e ∙ omega arith, omega arith)

-- the frames of a row of consecutive ones
pub contains-frames : (first n f : ℕ) → Contains (frames_from first n) f → (first ≤ f) × (f < first + n)
contains-frames first n f h =
    let at = frame-at first n h.0 f h.1 in
    let e : f ≡ first + h.0 = sym h.2 ∙ at.0 in
    let b : h.0 < n = at.1 in
    (omega arith, omega arith)

-- tables that get consecutive frames

-- the block of a number in a list
abbrev pub nth : List Block → ℕ → Block
nth [] k = (0, 0)
nth (b ∷ bs) zero = b
nth (b ∷ bs) (suc k) = nth bs k

pub placed-frames : (bs : List Block) (first n : ℕ) (old : Block → Option ℕ) (b : Block) (f : ℕ)
    → placed bs (frames_from first n) old b ≡ Some f
    → (old b ≡ Some f) ⊎ ((first ≤ f) × (f < first + length bs) × (b ≡ nth bs (f - first)))
placed-frames [] first n old b f h = inl h
placed-frames (a ∷ bs) first zero old b f h = inl h
placed-frames (a ∷ bs) first (suc n) old b f h = elim (both (block_eq a b)) [
  | inl e ↦
      let here : Some first ≡ Some f = rw e at h in
      let same : first ≡ f = cc in
      let k : f - first ≡ 0 = omega arith in
      inr (omega arith, omega arith, sym (block_eq-same a b e) ∙ sym (ap (nth (a ∷ bs)) k))
  | inr e ↦
      let there : placed bs (frames_from (first + 1) n) old b ≡ Some f = rw e at h in
      elim (placed-frames bs (first + 1) n old b f there) [
        | inl p ↦ inl p
        | inr p ↦
            let low : first + 1 ≤ f = p.0 in
            let high : f < first + 1 + length bs = p.1 in
            let k : f - first ≡ suc (f - (first + 1)) = omega arith in
            inr (omega arith, omega arith, p.2 ∙ sym (ap (nth (a ∷ bs)) k))
      ]
]

pub cleared-old : (bs : List Block) (old : Block → Option ℕ) (b : Block) (f : ℕ)
    → cleared bs old b ≡ Some f
    → old b ≡ Some f
cleared-old [] old b f h = h
cleared-old (a ∷ bs) old b f h = elim (both (block_eq a b)) [
  | inl e ↦ let no_table : None ≡ Some f = rw e at h in cc
  | inr e ↦ cleared-old bs old b f (rw e at h)
]

root-table : (depth root : ℕ) (b : Block) (f : ℕ)
    → (if b.0 == depth + 1 && b.1 == 0 then Some root else None) ≡ Some f
    → (f ≡ root) × (b ≡ (depth + 1, 0))
root-table depth root b f h = elim (both (b.0 == depth + 1 && b.1 == 0)) [
  | inl e ↦
      let at = and-both (b.0 == depth + 1) (b.1 == 0) e in
      let here : Some root ≡ Some f = rw e at h in
      (cc, block-same (eq-same b.0 (depth + 1) at.0) (eq-same b.1 0 at.1))
  | inr e ↦ let no_table : None ≡ Some f = rw e at h in cc
]

-- the tables of a tree whose root alone stood before a change, where the new ones get consecutive frames
pub tables-of : (d root : ℕ) (e : Edit) (first n : ℕ) (fs : Pool) (b : Block) (f : ℕ)
    → fs ≡ frames_from first n
    → (edited d (root_tree d root) e fs).table b ≡ Some f
    → ((f ≡ root) × (b ≡ (d + 1, 0)))
    ⊎ ((first ≤ f)
    × (f < first + need d (root_tree d root) e)
    × (b ≡ nth (needs d (root_tree d root) e) (f - first)))
unfolding edited
tables-of d root e first n fs b f same h =
    let old = (root_tree d root).table in
    let new = needs d (root_tree d root) e in
    let stands : placed new fs old b ≡ Some f = cleared-old (freed d (root_tree d root) e) (placed new fs old) b f h in
    let row : placed new (frames_from first n) old b ≡ Some f = rw same at stands in
    elim (placed-frames new first n old b f row) [ inl p ↦ inl (root-table d root b f p) | inr p ↦ inr p ]
