-- Where blocks of a tree are.
use Rattle.std.proofs.Common.{◌≡◌, ℕ, zero, suc, ◌+◌, ◌-◌, ◌*◌, ◌^◌, ◌≤◌, List, [], ◌∷◌, take, length, Some, subst, arith, mul-le-mul_right}
use Rattle.std.specs.Prelude.{All}
use Rattle.std.proofs.lemmas.List.{take_all}
use Rattle.std.proofs.lemmas.List.Elements.{All-head, All-tail}
use Rattle.coarse_trees.specs.Coarsest.{IsInTree}
use Rattle.page_state.specs.Blocks.{block_eq}
use Rattle.page_state.specs.Geometries.{block_pages}
use Rattle.page_state.specs.Trees.{Block}
use Rattle.page_state.proofs.BlockTests.{block_eq-same}
use Rattle.page_state.proofs.Cases.{by_test}
use Rattle.page_state.proofs.Sizes.{size_split}
use Rattle.ghost_trees.specs.declared.tree.Table.{Table}
use Rattle.ghost_trees.specs.Trees.{table_of, IsLowBlock}
use Rattle.ghost_coarse.specs.Misfits.{AreInside}

-- the pages of a tree
pub most-pages : (depth : ℕ) → depth ≤ 3 → block_pages (depth + 1) ≤ 2 ^ 36
most-pages zero h = omega arith
most-pages (suc zero) h = omega arith
most-pages (suc (suc zero)) h = omega arith
most-pages (suc (suc (suc zero))) h = omega arith
most-pages (suc (suc (suc (suc d)))) h = absurd (omega (arith, h))

-- so many blocks of a depth have the tree's pages
pub blocks-below : (depth d : ℕ) → depth ≤ 3 → d ≤ depth → block_pages (depth + 1 - d) * block_pages d ≤ 2 ^ 63
blocks-below depth d h k =
    let e = size_split (depth + 1) d (omega (arith, k)) in
    let m = most-pages depth h in
    omega (arith, e, m)

pub low_block : (depth : ℕ) (b : Block) → depth ≤ 3 → IsInTree depth b → b.0 ≤ depth → IsLowBlock b
low_block depth b h i k =
    let index = i.index in
    let less : b.1 ≤ block_pages (depth + 1 - b.0) = omega (arith, index) in
    let m = mul-le-mul_right (block_pages b.0) less in
    let n = blocks-below depth b.0 h k in
    (omega (arith, h, k), omega (arith, m, n))

-- a block that has a table is the tree's
pub inside-at : (depth : ℕ) (ts : List Table) (b : Block) (f : ℕ)
    → AreInside depth ts
    → table_of ts b ≡ Some f
    → IsInTree depth b
inside-at depth [] b f h e = absurd (cc)
inside-at depth (t ∷ ts) b f h e = by_test (block_eq t.block b)
    (λ x. subst (IsInTree depth) (block_eq-same t.block b x) (All-head (λ t. IsInTree depth t.block) t ts h))
    (λ x. let k : table_of ts b ≡ Some f = rw x at e in
    inside-at depth ts b f (All-tail (λ t. IsInTree depth t.block) t ts h) k)

-- all of a list were taken
pub all-taken : {X : Type 0} (P : X → Type 0) (xs : List X) (i : ℕ) → length xs ≤ i → All P (take i xs) → All P xs
all-taken P xs i h a = subst (All P) (take_all i xs h) a
