-- Pages in blocks, and blocks in blocks.
use Rattle.std.proofs.Common.{◌≡◌, ℕ, suc, ◌+◌, ◌-◌, ◌*◌, ◌/◌, ◌%◌, ◌<◌, ◌≤◌, refl, sym, ap, subst, arith, ◌∙◌, mul-le-mul_right}
use Rattle.std.proofs.Math.Nat.{div-mul-le_self, lt-div-mul-add}
use Rattle.page_state.specs.Trees.{Block}
use Rattle.page_state.specs.Geometries.{block_pages}
use Rattle.page_state.proofs.Sizes.{size_step, size_some, size_split}
use Rattle.table_tree.specs.Meaning.{index_at}
use Rattle.walk_plan.proofs.Numbers.{quotient, index_in, less_scaled}

-- a page lies in a block
pub record IsIn (d b q : ℕ) : Type 0 where
  pub low : b * block_pages d ≤ q
  pub high : q < b * block_pages d + block_pages d

-- and in one part of it
held : (s z b q : ℕ)
    → 1 ≤ s
    → z ≡ 512 * s
    → b * z ≤ q
    → q < b * z + z
    → ((512 * b + q / s % 512) * s ≤ q) × (q < (512 * b + q / s % 512) * s + s)
held s z b q p e low high =
    let x = div-mul-le_self q s in
    let y = lt-div-mul-add {a = q} {b = s} p in
    let low' : b * (512 * s) ≤ q = rw e at low in
    let high' : q < b * (512 * s) + 512 * s = rw e at high in
    let one : 512 * b * s < (q / s + 1) * s = omega arith in
    let two : q / s * s < (512 * b + 512) * s = omega arith in
    let a = less_scaled (512 * b) (q / s + 1) s one in
    let c = less_scaled (q / s) (512 * b + 512) s two in
    let k : 512 * b + q / s % 512 ≡ q / s = omega arith in
    rw k (x, y)

pub in_part : (d b q : ℕ) → IsIn (suc d) b q → IsIn d (512 * b + index_at d q) q
in_part d b q h = let low = h.low in
    let high = h.high in
    let x = held (block_pages d) (block_pages (suc d)) b q (size_some d) (size_step d) low high in
    record { low = x.0; high = x.1 }

-- a block of a depth is the one that its first page lies in
pub top_block : (d b low j : ℕ)
    → low ≡ d
    → IsIn (suc d) b (j * block_pages (suc low))
    → ◌≡◌ {A = Block} (suc d, b) (suc low, j)
top_block d b low j e h =
    let s = block_pages (suc d) in
    let in' : IsIn (suc d) b (j * s) = subst (λ z. IsIn (suc d) b (j * block_pages (suc z))) e h in
    let l = in'.low in
    let u = in'.high in
    let k = size_some (suc d) in
    let one : j * s < (b + 1) * s = omega arith in
    let two : b * s < (j + 1) * s = omega arith in
    let x = less_scaled j (b + 1) s one in
    let y = less_scaled b (j + 1) s two in
    let z : b ≡ j = omega arith in
    rw (e, z) refl

pub below_top : (low d : ℕ) → low < suc d → (low ≡ d → ⊥) → low < d
below_top low d p ne = omega arith

pub top_other : (d b low j : ℕ) → (low ≡ d → ⊥) → ◌≡◌ {A = Block} (suc d, b) (suc low, j) → ⊥
top_other d b low j ne e = let x : suc d ≡ suc low = ap (λ (z : Block). z.0) e in ne (omega arith)

pub index_of_in : (d b i q : ℕ) → i < 512 → IsIn d (512 * b + i) q → index_at d q ≡ i
index_of_in d b i q p h = index_in d b i q p h.low h.high

-- the pages that share a block with its first page
own : (low j : ℕ) → j * block_pages (suc low) / block_pages (suc low) ≡ j
own low j =
    quotient j (block_pages (suc low)) (j * block_pages (suc low)) (omega arith)
    (let s = size_some (suc low) in omega arith)

pub page_under : (low j p : ℕ)
    → p / block_pages (suc low) ≡ j * block_pages (suc low) / block_pages (suc low)
    → IsIn (suc low) j p
page_under low j p h =
    let e : p / block_pages (suc low) ≡ j = h ∙ own low j in
    let x : p / block_pages (suc low) * block_pages (suc low) ≤ p = div-mul-le_self p (block_pages (suc low)) in
    let y = lt-div-mul-add {a = p} {b = block_pages (suc low)} (size_some (suc low)) in
    record { low = rw e at x; high = rw e at y }

pub under_page : (low j p : ℕ)
    → IsIn (suc low) j p
    → p / block_pages (suc low) ≡ j * block_pages (suc low) / block_pages (suc low)
under_page low j p h = quotient j (block_pages (suc low)) p h.low h.high ∙ sym (own low j)

-- a block that begins on an input page ends on one
pub block_within : (top low j p : ℕ)
    → low < top
    → j * block_pages (suc low) < block_pages (suc top)
    → IsIn (suc low) j p
    → p < block_pages (suc top)
block_within top low j p l h k =
    let s = block_pages (suc low) in
    let e = size_split (suc top) (suc low) (omega arith) in
    let x : j * s < block_pages (suc top - suc low) * s = omega arith in
    let less = less_scaled j (block_pages (suc top - suc low)) s x in
    let y = mul-le-mul_right s less in
    let high = k.high in
    omega (arith, y)
