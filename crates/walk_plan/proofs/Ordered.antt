-- The blocks that the recursion tells are those on the range, in order.
use Rattle.std.proofs.Common.{◌≡◌, ℕ, zero, suc, ◌+◌, ◌-◌, ◌*◌, ◌<◌, ◌≤◌, refl, sym, subst, arith, inl, inr, true, All, Contains, AllPairs, mul-le-mul_right}
use Rattle.std.proofs.lemmas.List.Elements.{All-weaker, All-contains}
use Rattle.std.proofs.lemmas.List.Kept.{AllPairs-cons}
use Rattle.page_state.specs.Trees.{Block}
use Rattle.page_state.specs.Blocks.{span, first_page, blocks_on}
use Rattle.page_state.specs.Laws.{ComesBefore}
use Rattle.page_state.specs.Geometries.{block_pages}
use Rattle.page_state.proofs.BlockLists.{blocks_meet, blocks_ordered}
use Rattle.page_state.proofs.Sizes.{size_some, size_split}
use Rattle.page_state.proofs.Cases.{by_test, by_lt}
use Rattle.walk_plan.specs.declared.change.Change.{Change}
use Rattle.walk_plan.proofs.Numbers.{less_scaled}
use Rattle.walk_plan.proofs.Walked.{meets, met_block, block_met, under, below, IsUnder, all_under, part_under, under_in}
use Rattle.walk_plan.proofs.Joined.{contains_joined, all_joined, pairs_joined, pairs_nil, same_list}

same_place : (s n b : ℕ) → 1 ≤ s → b * s ≤ n * s → n * s + s ≤ b * s + s → n ≡ b
same_place s n b p low high =
    let x : n * s < (b + 1) * s = omega arith in
    let y : b * s < (n + 1) * s = omega arith in
    let u = less_scaled n (b + 1) s x in
    let v = less_scaled b (n + 1) s y in
    omega arith

-- each of them is told

same_block : (a b : Block) → a.0 ≡ b.0 → a.1 ≡ b.1 → a ≡ b
same_block (d, i) (e, j) p q = rw (p, q) refl

ancestor_met : (c : Change) (d b : ℕ) (a : Block) → c.first < c.end → IsUnder c d b a → meets c d b ≡ true
ancestor_met c d b a some h =
    let m = met_block c a.0 a.1 h.met in
    let low = h.low in
    let high = h.high in
    block_met c d b some (omega (arith, m.0)) (omega (arith, m.1))

under_all : (c : Change) (d b : ℕ) (a : Block) → c.first < c.end → IsUnder c d b a → Contains (under c d b) a
unfolding under
under_all c zero b a some h = let x = h.deep in let y = h.shallow in absurd (omega arith)
under_all c (suc d) b a some h =
    let met = ancestor_met c (suc d) b a some h in
    by_lt d a.0
    (λ p.
    let s = h.shallow in
    let e : a.0 ≡ suc d = omega arith in
    let low : b * block_pages (suc d) ≤ a.1 * block_pages (suc d) =
    subst (λ n. b * block_pages (suc d) ≤ a.1 * block_pages n) e h.low in
    let high : a.1 * block_pages (suc d) + block_pages (suc d) ≤ b * block_pages (suc d) + block_pages (suc d) =
    subst (λ n. a.1 * block_pages n + block_pages n ≤ b * block_pages (suc d) + block_pages (suc d)) e h.high in
    let at : a.1 ≡ b = same_place (block_pages (suc d)) a.1 b (size_some (suc d)) low high in
    rw met (0, omega arith, sym (same_block a (suc d, b) e at)))
    (λ p.
    let x = under_in c d b a h p in
    let y : Contains (below c d b) a =
    contains_joined (λ i. under c d (512 * b + i)) 512 x.0 a x.1 (under_all c d (512 * b + x.0) a some x.2) in
    let z : y.0 < _ = y.1 in
    rw met (suc y.0, omega arith, y.2))

below_all : (c : Change) (d b : ℕ) (a : Block)
    → c.first < c.end
    → IsUnder c (suc d) b a
    → a.0 ≤ d
    → Contains (below c d b) a
below_all c d b a some h p =
    let x = under_in c d b a h p in
    contains_joined (λ i. under c d (512 * b + i)) 512 x.0 a x.1 (under_all c d (512 * b + x.0) a some x.2)

-- in order

strict : (a b : Block) → ComesBefore a b → ComesBefore b a → ⊥
strict a b h k = elim h [
  | inl p ↦ elim k [ inl q ↦ omega arith | inr q ↦ omega (arith, q.0) ]
  | inr p ↦ elim k [ inl q ↦ omega (arith, p.0) | inr q ↦ omega (arith, p.1, q.1) ]
]

head_first : (c : Change) (d b : ℕ) (a : Block) → IsUnder c (suc d) b a → a.0 ≤ d → ComesBefore (suc d, b) a
head_first c d b a h p =
    let low = h.low in
    by_lt (b * block_pages (suc d)) (a.1 * block_pages a.0)
    (λ q. inl q)
    (λ q. let same : b * block_pages (suc d) ≡ a.1 * block_pages a.0 = omega arith in inr (same, omega arith))

parts_first : (c : Change) (d b i j : ℕ) (x y : Block)
    → i < j
    → IsUnder c d (512 * b + i) x
    → IsUnder c d (512 * b + j) y
    → ComesBefore x y
parts_first c d b i j x y p h k =
    let high = h.high in
    let low = k.low in
    let r = size_some x.0 in
    let q : i + 1 ≤ j = omega arith in
    let z = mul-le-mul_right (block_pages d) q in
    inl (apart (block_pages d) b i j _ _ (block_pages x.0) r z high low)
  where
    apart : (s b i j x y u : ℕ)
        → 1 ≤ u
        → (i + 1) * s ≤ j * s
        → x + u ≤ (512 * b + i) * s + s
        → (512 * b + j) * s ≤ y
        → x < y
    apart s b i j x y u h k p q = omega arith

below_ordered : (c : Change) (d b : ℕ)
    → ((k : ℕ) → AllPairs ComesBefore (under c d k))
    → AllPairs ComesBefore (below c d b)
below_ordered c d b h = pairs_joined ComesBefore (λ i. under c d (512 * b + i)) 512 (λ i p. h (512 * b + i))
    (λ i j p q. All-weaker (IsUnder c d (512 * b + i)) (λ x. All (ComesBefore x) (under c d (512 * b + j)))
    (λ x k. All-weaker (IsUnder c d (512 * b + j)) (ComesBefore x) (λ y l. parts_first c d b i j x y p k l)
    (under c d (512 * b + j)) (all_under c d (512 * b + j)))
    (under c d (512 * b + i)) (all_under c d (512 * b + i)))

pub all_below : (c : Change) (d b : ℕ) → All (λ a. IsUnder c (suc d) b a × (a.0 ≤ d)) (below c d b)
all_below c d b = all_joined (λ a. IsUnder c (suc d) b a × (a.0 ≤ d)) (λ i. under c d (512 * b + i)) 512
    (λ i p. All-weaker (IsUnder c d (512 * b + i)) (λ a. IsUnder c (suc d) b a × (a.0 ≤ d))
    (λ a h. (part_under c d b i a p h, h.shallow)) (under c d (512 * b + i)) (all_under c d (512 * b + i)))

under_ordered : (c : Change) (d b : ℕ) → AllPairs ComesBefore (under c d b)
unfolding under
under_ordered c zero b = pairs_nil ComesBefore
under_ordered c (suc d) b =
    by_test (meets c (suc d) b)
    (λ h. rw h (AllPairs-cons ComesBefore (suc d, b) (below c d b)
    (All-weaker (λ a. IsUnder c (suc d) b a × (a.0 ≤ d)) (ComesBefore (suc d, b)) (λ a x. head_first c d b a x.0 x.1)
    (below c d b) (all_below c d b))
    (below_ordered c d b (under_ordered c d))))
    (λ h. rw h (pairs_nil ComesBefore))

-- the blocks on a range of a tree
module _ (c : Change) (top first count : ℕ) (some : 0 < count) (within : first + count ≤ block_pages (suc top))
    (from : c.first ≡ first) (to : c.end ≡ first + count) where
  change_some : c.first < c.end
  change_some = omega arith

  on_under : (a : Block)
      → (1 ≤ a.0) × (a.0 ≤ top) × (first_page a < first + count) × (first < first_page a + span a)
      → IsUnder c (suc top) 0 a
  on_under a h =
      let p : a.1 * block_pages a.0 < c.end = rw (sym to) at h.2 in
      let q : c.first < a.1 * block_pages a.0 + block_pages a.0 = rw (sym from) at h.3 in
      let split = size_split (suc top) a.0 (omega (arith, h.1)) in
      let low : a.1 * block_pages a.0 < block_pages (suc top - a.0) * block_pages a.0 = omega arith in
      let less : a.1 + 1 ≤ block_pages (suc top - a.0) =
      let x = less_scaled a.1 (block_pages (suc top - a.0)) (block_pages a.0) low in
      omega arith in
      let high = mul-le-mul_right (block_pages a.0) less in
      record {
        deep = h.0;
        shallow = omega (arith, h.1);
        low = omega arith;
        high = omega arith;
        met = block_met c a.0 a.1 change_some q p;
      }

  under_on : (a : Block)
      → IsUnder c (suc top) 0 a
      → a.0 ≤ top
      → (1 ≤ a.0) × (a.0 ≤ top) × (first_page a < first + count) × (first < first_page a + span a)
  under_on a h p =
      let m = met_block c a.0 a.1 h.met in
      let x : a.1 * block_pages a.0 < first + count = omega (arith, m.1) in
      let y : first < a.1 * block_pages a.0 + block_pages a.0 = omega (arith, m.0) in
      (h.deep, p, x, y)

  pub blocks_below : blocks_on top first count ≡ below c top 0
  blocks_below =
      same_list ComesBefore strict (blocks_on top first count) (below c top 0) (blocks_ordered top first count)
      (below_ordered c top 0 (under_ordered c top))
      (λ a h. let m = (blocks_meet top first count a some).0 h in below_all c top 0 a change_some (on_under a m) m.1)
      (λ a h. let x =
      All-contains (λ a. IsUnder c (suc top) 0 a × (a.0 ≤ top)) (below c top 0) a (all_below c top 0) h in
      (blocks_meet top first count a some).1 (under_on a x.0 x.1))
