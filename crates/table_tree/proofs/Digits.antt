use Rattle.std.proofs.Common.{◌≡◌, ℕ, ◌+◌, ◌*◌, ◌/◌, ◌%◌, ◌<◌, ◌≤◌, arith}
use Rattle.std.proofs.lemmas.Nat.{mod-pow-add, div-mul-add}
use Rattle.page_state.specs.Geometries.{block_pages}
use Rattle.table_tree.specs.Meaning.{index_at}

-- the low digits of a page in a table are its index there and the digits below
pub digits : (n q : ℕ) → q % block_pages (n + 1) ≡ index_at n q * block_pages n + q % block_pages n
digits n q = let e : 9 * (n + 1) ≡ 9 + 9 * n = omega arith in rw e (mod-pow-add q 9 (9 * n))

-- a page's place above a block in a table: its index, and its place in the child
place : (s t i r : ℕ) → 1 ≤ s → (i * (t * s) + r) / s ≡ i * t + r / s
place s t i r h =
    let lt : r % s < s = omega (arith, h) in
    let e : i * (t * s) + r ≡ (i * t + r / s) * s + r % s = omega (arith, h) in
    rw e (div-mul-add (i * t + r / s) s (r % s) lt)

pub index_small : (n q : ℕ) → index_at n q < 512
index_small n q = omega arith
