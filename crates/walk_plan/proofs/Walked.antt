-- The blocks on a range, told by recursion: a block before its parts.
use Rattle.std.proofs.Common.{◌≡◌, ℕ, zero, suc, ◌+◌, ◌-◌, ◌*◌, ◌/◌, ◌<◌, ◌≤◌, min, refl, subst, arith, Bool, true, false, cond, nat_lt, List, [], ◌∷◌, All, mul-le-mul_right}
use Rattle.std.proofs.lemmas.Bool.Decides.{nat_tests}
use Rattle.std.proofs.lemmas.List.Elements.{All-nil, All-cons, All-weaker}
use Rattle.std.proofs.Math.Nat.{div-mul-le_self, lt-div-mul-add}
use Rattle.page_state.specs.Trees.{Block}
use Rattle.page_state.specs.Geometries.{block_pages}
use Rattle.page_state.proofs.Sizes.{size_step, size_some, size_split}
use Rattle.page_state.proofs.Cases.{by_test}
use Rattle.walk_plan.specs.declared.change.Change.{Change}
use Rattle.walk_plan.specs.Changes.{part}
use Rattle.walk_plan.proofs.Numbers.{less_scaled, from_part, to_part}
use Rattle.table_tree.specs.AllBlocks.{gathered}
use Rattle.walk_plan.proofs.Joined.{all_joined}

-- whether a change meets a block
abbrev pub meets : Change → ℕ → ℕ → Bool
meets c d b = nat_lt (part d b c).first (part d b c).end

meets_pages : (f e k s : ℕ) → nat_lt (f - k) (min (e - k) s) ≡ true → (f < k + s) × (k < e)
meets_pages f e k s h = let x : f - k < min (e - k) s = grind (arith, nat_tests) in (omega arith, omega arith)

pages_meet : (f e k s : ℕ) → 1 ≤ s → f < e → f < k + s → k < e → nat_lt (f - k) (min (e - k) s) ≡ true
pages_meet f e k s p q r t = let x : f - k < min (e - k) s = omega arith in grind (arith, nat_tests)

pub met_block : (c : Change) (d b : ℕ)
    → meets c d b ≡ true
    → (c.first < b * block_pages d + block_pages d) × (b * block_pages d < c.end)
met_block c d b h = meets_pages c.first c.end (b * block_pages d) (block_pages d) h

pub block_met : (c : Change) (d b : ℕ)
    → c.first < c.end
    → c.first < b * block_pages d + block_pages d
    → b * block_pages d < c.end
    → meets c d b ≡ true
block_met c d b p q r = pages_meet c.first c.end (b * block_pages d) (block_pages d) (size_some d) p q r

-- a block and those below it that a change meets
unfoldable pub under : Change → ℕ → ℕ → List Block
under c zero b = []
under c (suc d) b = cond (meets c (suc d) b) ((suc d, b) ∷ gathered (λ i. under c d (512 * b + i)) 512) []

-- those below it
abbrev pub below : Change → ℕ → ℕ → List Block
below c d b = gathered (λ i. under c d (512 * b + i)) 512

pub under_page : (c : Change) (b : ℕ) → under c 0 b ≡ []
unfolding under
under_page c b = refl

pub under_met : (c : Change) (d b : ℕ) → meets c (suc d) b ≡ true → under c (suc d) b ≡ (suc d, b) ∷ below c d b
unfolding under
under_met c d b h = rw h refl

pub under_unmet : (c : Change) (d b : ℕ) → meets c d b ≡ false → under c d b ≡ []
unfolding under
under_unmet c zero b h = refl
under_unmet c (suc d) b h = rw h refl

-- a block lies in a block, and the change meets it
pub record IsUnder (c : Change) (d b : ℕ) (a : Block) : Type 0 where
  pub deep : 1 ≤ a.0
  pub shallow : a.0 ≤ d
  pub low : b * block_pages d ≤ a.1 * block_pages a.0
  pub high : a.1 * block_pages a.0 + block_pages a.0 ≤ b * block_pages d + block_pages d
  pub met : meets c a.0 a.1 ≡ true

pub part_under : (c : Change) (d b i : ℕ) (a : Block) → i < 512 → IsUnder c d (512 * b + i) a → IsUnder c (suc d) b a
part_under c d b i a p h =
    let low = h.low in
    let high = h.high in
    record {
      deep = h.deep;
      shallow = let x = h.shallow in omega arith;
      low = from_part (block_pages d) (block_pages (suc d)) b i _ (size_step d) low;
      high = to_part (block_pages d) (block_pages (suc d)) b i _ (size_step d) p high;
      met = h.met;
    }

pub all_under : (c : Change) (d b : ℕ) → All (IsUnder c d b) (under c d b)
unfolding under
all_under c zero b = All-nil (IsUnder c zero b)
all_under c (suc d) b =
    by_test (meets c (suc d) b)
    (λ h. rw h
    (All-cons (IsUnder c (suc d) b) (suc d, b) (below c d b)
    (record { deep = omega arith; shallow = omega arith; low = omega arith; high = omega arith; met = h })
    (all_joined (IsUnder c (suc d) b) (λ i. under c d (512 * b + i)) 512
    (λ i p. All-weaker (IsUnder c d (512 * b + i)) (IsUnder c (suc d) b) (λ a. part_under c d b i a p)
    (under c d (512 * b + i)) (all_under c d (512 * b + i))))))
    (λ h. rw h (All-nil (IsUnder c (suc d) b)))

-- of the parts of a block, the one that holds a block
part_of : (t n : ℕ) → 1 ≤ t → (n / t * t ≤ n) × (n + 1 ≤ n / t * t + t)
part_of t n h = let y = lt-div-mul-add {a = n} {b = t} h in (div-mul-le_self n t, omega arith)

record IsPlaced (t s u n b : ℕ) : Type 0 where
  from : 512 * b ≤ n / t
  to : n / t < 512 * b + 512
  low : n / t * s ≤ n * u
  high : n * u + u ≤ n / t * s + s

place_of : (t s u z n b : ℕ)
    → 1 ≤ t
    → 1 ≤ u
    → s ≡ t * u
    → z ≡ 512 * s
    → b * z ≤ n * u
    → n * u + u ≤ b * z + z
    → IsPlaced t s u n b
place_of t s u z n b p q e f low high =
    let at = part_of t n p in
    let x : n / t * t * u ≤ n * u = mul-le-mul_right u at.0 in
    let y : (n + 1) * u ≤ (n / t * t + t) * u = mul-le-mul_right u at.1 in
    let xs : n / t * t * u ≡ n / t * s = rw e (omega arith) in
    let ys : (n / t * t + t) * u ≡ n / t * s + s = rw e (omega arith) in
    let low' : b * (512 * s) ≤ n * u = rw f at low in
    let high' : n * u + u ≤ b * (512 * s) + 512 * s = rw f at high in
    let one : 512 * b * s < (n / t + 1) * s = omega arith in
    let two : n / t * s < (512 * b + 512) * s = omega arith in
    let three : 512 * b < n / t + 1 = less_scaled (512 * b) (n / t + 1) s one in
    record { from = omega arith; to = less_scaled (n / t) (512 * b + 512) s two; low = omega arith; high = omega arith }

pub under_in : (c : Change) (d b : ℕ) (a : Block)
    → IsUnder c (suc d) b a
    → a.0 ≤ d
    → (i : ℕ) × (i < 512) × IsUnder c d (512 * b + i) a
under_in c d b a h p =
    let low = h.low in
    let high = h.high in
    let x =
    place_of (block_pages (d - a.0)) (block_pages d) (block_pages a.0) (block_pages (suc d)) a.1 b
    (size_some (d - a.0)) (size_some a.0) (size_split d a.0 p) (size_step d) low high in
    let k = a.1 / block_pages (d - a.0) in
    let f = x.from in
    let t = x.to in
    let e : k ≡ 512 * b + (k - 512 * b) = omega arith in (
      k - 512 * b,
      omega arith,
      subst (λ n. IsUnder c d n a) e (record { deep = h.deep; shallow = p; low = x.low; high = x.high; met = h.met }),
    )
