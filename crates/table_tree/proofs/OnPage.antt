-- Paths, one index after another.
use Rattle.std.proofs.Common.{ℕ, zero, suc, ◌+◌, ◌-◌, ◌*◌, ◌/◌, ◌<◌, ◌≤◌, ◌≡◌, List, ap, sym, ◌∙◌, arith, [], ◌∷◌, ◌++◌, add-one, length, refl}
use Rattle.std.proofs.Math.Nat.{div-div-eq-div-mul, div-eq_of_lt}
use Rattle.page_state.specs.declared.layout.Geometry.{Geometry}
use Rattle.page_state.specs.Trees.{Block}
use Rattle.page_state.specs.Blocks.{block_at}
use Rattle.page_state.specs.Geometries.{levels_below, input_pages, block_pages}
use Rattle.page_state.proofs.Sizes.{size_next}
use Rattle.table_tree.specs.Meaning.{index_at}
use Rattle.table_tree.specs.Said.{block_number, block_of}
use Rattle.table_tree.specs.OnPage.{path_of}
use Rattle.table_tree.proofs.PathNumbers.{number_from}

next : (page below n : ℕ) → path_of page below (suc n) ≡ path_of page below n ++ index_at (below - n) page ∷ []
next page below zero = ap (λ k. index_at k page ∷ []) (omega arith)
next page below (suc n) =
    ap (λ is. index_at below page ∷ is)
    (next page (below - 1) n ∙ ap (λ k. path_of page (below - 1) n ++ index_at k page ∷ []) (omega arith))

-- a path with one more index at its end
pub path_of-more : (page below n : ℕ)
    → path_of page below (n + 1) ≡ path_of page below n ++ index_at (below - n) page ∷ []
path_of-more page below n = rw add-one (next page below n)

-- the path down to a level, and one level further
pub path_of-further : (page top upper : ℕ) → top ≤ upper → upper ≤ 3
    → path_of page (3 - top) (upper + 1 - top) ≡ path_of page (3 - top) (upper - top) ++ index_at (3 - upper) page ∷ []
path_of-further page top upper low high =
    let count : upper + 1 - top ≡ upper - top + 1 = omega arith in
    let below : 3 - top - (upper - top) ≡ 3 - upper = omega arith in
    ap (path_of page (3 - top)) count ∙ path_of-more page (3 - top) (upper - top)
    ∙ ap (λ k. path_of page (3 - top) (upper - top) ++ index_at k page ∷ []) below

-- one more digit of a page
digit : (q below a : ℕ) → a ≡ q / block_pages (below + 1) → a * 512 + index_at below q ≡ q / block_pages below
digit q below a e =
    let size : block_pages (below + 1) ≡ block_pages below * 512 = let x = size_next below in omega (arith, x) in
    let over : a ≡ q / block_pages below / 512 =
    e ∙ ap (λ n. q / n) size ∙ sym (div-div-eq-div-mul q (block_pages below) 512) in
    omega (arith, over)

-- the number of a page's path is that of the block which holds the page
pub path_number : (q below k a : ℕ)
    → k ≤ below + 1
    → a ≡ q / block_pages (below + 1)
    → number_from a (path_of q below k) ≡ q / block_pages (below + 1 - k)
path_number q below zero a l e = e ∙ ap (λ n. q / block_pages n) (omega arith)
path_number q below (suc zero) a l e = digit q below a e ∙ ap (λ n. q / block_pages n) (omega arith)
path_number q below (suc (suc k)) a l e =
    let one : below - 1 + 1 ≡ below = omega arith in
    path_number q (below - 1) (suc k) (a * 512 + index_at below q) (omega arith)
    (digit q below a e ∙ ap (λ n. q / block_pages n) (sym one))
    ∙ ap (λ n. q / block_pages n) (omega arith)

pub path_length : (q below k : ℕ) → length (path_of q below k) ≡ k
path_length q below zero = refl
path_length q below (suc k) = ap (λ n. suc n) (path_length q (below - 1) k)

-- the block of a page's path is the one that holds the page
pub page_block : (g : Geometry) (path : List ℕ) (q top level : ℕ)
    → 3 - top ≡ levels_below g
    → top ≤ level
    → level ≤ 3
    → q < input_pages g
    → path ≡ path_of q (3 - top) (level + 1 - top)
    → block_of g path ≡ block_at (3 - level) q
page_block g path q top level e l h inside is =
    let path' : path ≡ path_of q (levels_below g) (level + 1 - top) = is ∙ ap (λ n. path_of q n (level + 1 - top)) e in
    let depth : levels_below g + 1 - length path ≡ 3 - level =
    omega (arith, ap length path', path_length q (levels_below g) (level + 1 - top)) in
    let below : levels_below g + 1 - (level + 1 - top) ≡ 3 - level = omega arith in
    let number : block_number path ≡ q / block_pages (3 - level) =
    ap block_number path'
    ∙ path_number q (levels_below g) (level + 1 - top) 0 (omega arith) (sym (div-eq_of_lt inside))
    ∙ ap (λ n. q / block_pages n) below in
    let block : ℕ → ℕ → Block = λ d n. (d, n) in
    ap (λ d. block d (block_number path)) depth ∙ ap (λ n. block (3 - level) n) number
