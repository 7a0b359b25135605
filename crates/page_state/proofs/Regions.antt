-- Regions of accepted memory, and runs of pages within them.
use Rattle.std.proofs.Common.{◌≡◌, ℕ, suc, ◌+◌, ◌-◌, ◌^◌, ◌<◌, ◌≤◌, true, false, List, [], ◌∷◌, Some, length, sym, ap, subst, arith, ◌∙◌, inl, inr}
use Rattle.std.specs.Prelude.{AllPairs, find, slice_index_or}
use Rattle.std.proofs.lemmas.Bool.Decides.{nat_tests}
use Rattle.page_state.specs.declared.layout.Region.{Region}
use Rattle.page_state.specs.LayoutFaults.{AreDisjoint, IsAccepted}
use Rattle.page_state.specs.Regions.{Memory, end_of, is_in_range, find_region, region_of, has_memory, is_memory_region, is_memory_kind}
use Rattle.page_state.specs.Search.{all_below}
use Rattle.page_state.proofs.Accepted.{memory_below}
use Rattle.page_state.proofs.Blocks.{all_from-each, all_from-by}
use Rattle.page_state.proofs.Cases.{by_lt}
use Rattle.page_state.proofs.Common.{both, not-holds, same-tests}

pub found-in : (rs : List Region) (page : ℕ) (r : Region)
    → find (λ q. is_in_range q.pages page) rs ≡ Some r
    → (k : ℕ) × (k < length rs) × (slice_index_or rs k r ≡ r)
found-in [] page r h = cc
found-in (q ∷ rs) page r h = elim (both (is_in_range q.pages page)) [
  | inl e ↦ let here : Some q ≡ Some r = rw e at h in (0, omega arith, cc)
  | inr e ↦ let there : find (λ q. is_in_range q.pages page) rs ≡ Some r = rw e at h in
      let x = found-in rs page r there in
      let less = x.1 in
      (suc x.0, omega arith, x.2)
]

-- a page of the region of another page has that region
pub same-region : (rs : List Region)
    → AllPairs (λ a b. AreDisjoint a.pages b.pages) rs
    → (page p : ℕ) (r : Region)
    → find_region rs page ≡ Some r
    → is_in_range r.pages p ≡ true
    → find_region rs p ≡ Some r
same-region [] apart page p r h w = cc
same-region (q ∷ rs) apart page p r h w = elim (both (is_in_range q.pages page)) [
  | inl e ↦
      let here : Some q ≡ Some r = rw e at h in
      let same : q ≡ r = cc in
      let in_q : is_in_range q.pages p ≡ true = subst (λ (k : Region). is_in_range k.pages p ≡ true) (sym same) w in
      rw in_q here
  | inr e ↦
      let there : find_region rs page ≡ Some r = rw e at h in
      let rest : find_region rs p ≡ Some r =
      same-region rs (λ i j d a b. apart (suc i) (suc j) d (omega arith) (omega arith)) page p r there w in
      let x = found-in rs page r there in
      let less = x.1 in
      elim (both (is_in_range q.pages p)) [
        | inl k ↦ absurd
            (apart 0 (suc x.0) r (omega arith) (omega arith) p k
            (subst (λ (y : Region). is_in_range y.pages p ≡ true) (sym x.2) w))
        | inr k ↦ rw k rest
      ]
]

pub find-holds : (rs : List Region) (page : ℕ) (r : Region)
    → find_region rs page ≡ Some r
    → is_in_range r.pages page ≡ true
find-holds [] page r h = cc
find-holds (q ∷ rs) page r h = elim (both (is_in_range q.pages page)) [
  | inl e ↦ let here : Some q ≡ Some r = rw e at h in
      let same : q ≡ r = cc in
      subst (λ (k : Region). is_in_range k.pages page ≡ true) same e
  | inr e ↦ let there : find_region rs page ≡ Some r = rw e at h in find-holds rs page r there
]

module _ (m : Memory) (a : IsAccepted m) (page : ℕ) (r : Region) (at : region_of m page ≡ Some r) where
  -- the region ends where regions may end
  pub region_low : end_of r.pages ≤ 2 ^ 26
  region_low = let x = found-in m.regions page r at in
      subst (λ (y : Region). end_of y.pages ≤ 2 ^ 26) x.2 (a.limits.0 x.0 r x.1)

  -- the page lies in it
  pub region_holds : (r.pages.first.0 ≤ page) × (page < end_of r.pages)
  region_holds = within (find-holds m.regions page r at)
    where
      within : is_in_range r.pages page ≡ true → (r.pages.first.0 ≤ page) × (page < end_of r.pages)
      within h = (grind (arith, nat_tests), grind (arith, nat_tests))

  -- and so do the pages up to its end
  region_along : (p : ℕ) → page ≤ p → p < end_of r.pages → region_of m p ≡ Some r
  region_along p low high = same-region m.regions a.disjoint page p r at (within region_holds.0)
    where
      within : r.pages.first.0 ≤ page → is_in_range r.pages p ≡ true
      within h = grind (arith, nat_tests)

  module _ (memory : is_memory_kind r.kind ≡ true) where
    memory_along : (p : ℕ) → page ≤ p → p < end_of r.pages → has_memory m p ≡ true
    memory_along p low high = ap is_memory_region (region_along p low high) ∙ memory

    -- the pages up to the region's end are memory
    pub memory_within : (n : ℕ) → page + n ≤ end_of r.pages → all_below n (λ i. has_memory m (page + i)) ≡ true
    memory_within n h =
        all_from-by 0 n (λ i. has_memory m (page + i))
        (λ i low high. memory_along (page + i) (omega arith) (omega arith))

    -- and the others are left to be asked
    pub memory_past : (n rest : ℕ)
        → page + rest ≡ end_of r.pages
        → rest < n
        → all_below (n - rest) (λ i. has_memory m (page + rest + i)) ≡ all_below n (λ i. has_memory m (page + i))
    memory_past n rest e h = same-tests _ _
        (λ k. all_from-by 0 n (λ i. has_memory m (page + i)) (λ i low high. by_lt i rest
        (λ l. memory_along (page + i) (omega arith) (omega arith))
        (λ l. let x =
        all_from-each 0 (n - rest) (λ j. has_memory m (page + rest + j)) k (i - rest) (omega arith) (omega arith) in
        let y : page + rest + (i - rest) ≡ page + i = omega arith in
        subst (λ p. has_memory m p ≡ true) y x)))
        (λ k. all_from-by 0 (n - rest) (λ j. has_memory m (page + rest + j)) (λ j low high.
        let x = all_from-each 0 n (λ i. has_memory m (page + i)) k (rest + j) (omega arith) (omega arith) in
        let y : page + (rest + j) ≡ page + rest + j = omega arith in
        subst (λ p. has_memory m p ≡ true) y x))

-- where the first page isn't memory, not all are
pub memory_not : (m : Memory) (page n : ℕ)
    → 1 ≤ n
    → has_memory m page ≡ false
    → all_below n (λ i. has_memory m (page + i)) ≡ false
memory_not m page n h f = not-holds _ (λ k.
    let x = all_from-each 0 n (λ i. has_memory m (page + i)) k 0 (omega arith) (omega arith) in
    let y : page + 0 ≡ page = omega arith in
    let z : has_memory m page ≡ true = subst (λ p. has_memory m p ≡ true) y x in
    absurd (cc))

-- memory ends where it may
pub memory_end : (m : Memory) (page n : ℕ)
    → IsAccepted m
    → 1 ≤ n
    → all_below n (λ i. has_memory m (page + i)) ≡ true
    → page + n ≤ 2 ^ 26
memory_end m page n a h k =
    let x = all_from-each 0 n (λ i. has_memory m (page + i)) k (n - 1) (omega arith) (omega arith) in
    let y = memory_below m (page + (n - 1)) a x in
    omega (arith, y)
