-- The blocks of a tree below its root, and free frames as their tables.
use Rattle.std.proofs.Common.{◌≡◌, ℕ, zero, suc, ◌+◌, ◌-◌, ◌*◌, ◌≤◌, ◌<◌, List, [], ◌∷◌, length, take, Option, Some, None, refl, ap, sym, ◌∙◌, subst, arith, inl, inr}
use Rattle.std.specs.Prelude.{Bool, true, false, ◌&&◌, ◌==◌, if◌then◌else◌}
use Rattle.std.proofs.lemmas.Bool.Decides.{nat_tests}
use Rattle.coarse_trees.specs.Coarsest.{IsInTree}
use Rattle.page_state.proofs.BlockTests.{block_eq-same}
use Rattle.page_state.proofs.Common.{both, if-false, not-holds}
use Rattle.page_state.proofs.Sizes.{size_step}
use Rattle.page_state.specs.Blocks.{block_eq}
use Rattle.page_state.specs.Geometries.{block_pages}
use Rattle.page_state.specs.Search.{count_below}
use Rattle.page_state.specs.Tables.{placed}
use Rattle.page_state.specs.Trees.{Block, root_tree}
use Rattle.reference_model.proofs.conditions.Tables.{AreBare, IsAbsent}
use Rattle.reference_model.specs.model.Owner.{count_blocks}
use Rattle.free_judge.specs.PoolByRows.{most_tables}

-- the blocks of a level before others

level : ℕ → ℕ → List Block → List Block
level d zero rest = rest
level d (suc n) rest = (d, n) ∷ level d n rest

-- those of the levels up to one
blocks : ℕ → ℕ → List Block
blocks top zero = []
blocks top (suc d) = level (suc d) (block_pages (top - suc d)) (blocks top d)

-- below the root
pub below-root : ℕ → List Block
below-root depth = blocks (depth + 1) depth

-- each is of the tree, once

apart : (a b : Block) → (a ≡ b → ⊥) → block_eq a b ≡ false
apart a b h = not-holds (block_eq a b) (λ e. h (block_eq-same a b e))

first-same : {d e i j : ℕ} → ◌≡◌ {A = Block} (d, i) (e, j) → d ≡ e
first-same h = ap (λ (b : Block). b.0) h

second-same : {d e i j : ℕ} → ◌≡◌ {A = Block} (d, i) (e, j) → i ≡ j
second-same h = ap (λ (b : Block). b.1) h

absent-level : (b : Block) (d n : ℕ) (rest : List Block)
    → ((i : ℕ) → i < n → ◌≡◌ {A = Block} (d, i) b → ⊥)
    → IsAbsent b rest
    → IsAbsent b (level d n rest)
unfolding level
absent-level b d zero rest h k = k
absent-level b d (suc n) rest h k =
    (apart (d, n) b (h n (omega arith)), absent-level b d n rest (λ i less. h i (omega arith)) k)

absent-blocks : (b : Block) (top d : ℕ) → d < b.0 → IsAbsent b (blocks top d)
unfolding blocks
absent-blocks b top zero h = tt
absent-blocks b top (suc d) h =
    absent-level b (suc d) (block_pages (top - suc d)) (blocks top d)
    (λ i less e. let same : suc d ≡ b.0 = ap (λ (c : Block). c.0) e in absurd (omega arith))
    (absent-blocks b top d (omega arith))

bare-level : (depth : ℕ) (old : Block → Option ℕ) (d n : ℕ) (rest : List Block)
    → ((i : ℕ) → i < n → IsInTree depth (d, i) × (old (d, i) ≡ None) × IsAbsent (d, i) rest)
    → AreBare depth old rest
    → AreBare depth old (level d n rest)
unfolding level
bare-level depth old d zero rest h k = k
bare-level depth old d (suc n) rest h k =
    let here = h n (omega arith) in (
      here.0,
      here.1,
      absent-level (d, n) d n rest
          (λ i less e. let same : i ≡ n = second-same e in absurd (omega arith)) here.2,
      bare-level depth old d n rest (λ i less. h i (omega arith)) k,
    )

bare-blocks : (depth : ℕ) (old : Block → Option ℕ) (d : ℕ)
    → d ≤ depth
    → ((b : Block) → b.0 ≤ depth → old b ≡ None)
    → AreBare depth old (blocks (depth + 1) d)
unfolding blocks
bare-blocks depth old zero less none = tt
bare-blocks depth old (suc d) less none =
    bare-level depth old (suc d) (block_pages (depth + 1 - suc d)) (blocks (depth + 1) d)
    (λ i low. (
      record { some = omega arith; top = omega arith; index = low },
      none (suc d, i) (omega arith),
      absent-blocks (suc d, i) (depth + 1) d (omega arith),
    ))
    (bare-blocks depth old d (omega arith) none)

root-none : (depth root : ℕ) (b : Block) → b.0 ≤ depth → (root_tree depth root).table b ≡ None
root-none depth root b less =
    let other : (b.0 == depth + 1) ≡ false = grind (arith, nat_tests) in
    ap (λ t. if t && b.1 == 0 then Some root else None) other

pub bare-below : (depth root : ℕ) → AreBare depth (root_tree depth root).table (below-root depth)
unfolding below-root
bare-below depth root =
    bare-blocks depth (root_tree depth root).table depth (omega arith) (root-none depth root)

-- the first ones

absent-take : (b : Block) (n : ℕ) (bs : List Block) → IsAbsent b bs → IsAbsent b (take n bs)
absent-take b zero bs h = tt
absent-take b (suc n) [] h = tt
absent-take b (suc n) (a ∷ bs) h = (h.0, absent-take b n bs h.1)

pub bare-take : (depth : ℕ) (old : Block → Option ℕ) (n : ℕ) (bs : List Block)
    → AreBare depth old bs
    → AreBare depth old (take n bs)
bare-take depth old zero bs h = tt
bare-take depth old (suc n) [] h = tt
bare-take depth old (suc n) (a ∷ bs) h = (h.0, h.1, absent-take a n bs h.2, bare-take depth old n bs h.3)

-- they don't have the root

pub root-absent : (depth n : ℕ) → IsAbsent (depth + 1, 0) (take n (below-root depth))
unfolding below-root
root-absent depth n =
    absent-take (depth + 1, 0) n (blocks (depth + 1) depth)
    (absent-blocks (depth + 1, 0) (depth + 1) depth (omega arith))

-- how many they are

zero-plus : (n : ℕ) → n ≡ 0 + n
zero-plus n = omega arith

level-length : (d n : ℕ) (rest : List Block) → length (level d n rest) ≡ n + length rest
unfolding level
level-length d zero rest = zero-plus (length rest)
level-length d (suc n) rest = let more = level-length d n rest in omega arith

-- a level more
deeper : (top d : ℕ) → d ≤ top → length (blocks (suc top) d) ≡ 512 * length (blocks top d)
unfolding blocks
deeper top zero less = refl
deeper top (suc d) less =
    let a = level-length (suc d) (block_pages (suc top - suc d)) (blocks (suc top) d) in
    let b = level-length (suc d) (block_pages (top - suc d)) (blocks top d) in
    let up : suc top - suc d ≡ suc (top - suc d) = omega arith in
    let size : block_pages (suc top - suc d) ≡ 512 * block_pages (top - suc d) =
    ap block_pages up ∙ size_step (top - suc d) in
    let rest = deeper top d (omega arith) in
    omega arith

by-depth : (depth : ℕ) → length (blocks (suc depth) depth) + 1 ≡ most_tables depth
unfolding blocks
by-depth zero = refl
by-depth (suc d) =
    let a = level-length (suc d) (block_pages (suc (suc d) - suc d)) (blocks (suc (suc d)) d) in
    let one-up : suc (suc d) - suc d ≡ suc zero = omega arith in
    let size : block_pages (suc (suc d) - suc d) ≡ 512 * block_pages zero =
    ap block_pages one-up ∙ size_step zero in
    let flat : block_pages zero ≡ 1 = refl in
    let rest = deeper (suc d) d (omega arith) in
    let next = by-depth d in
    omega arith

pub below-length : (depth : ℕ) → length (below-root depth) + 1 ≡ most_tables depth
unfolding below-root
below-length depth =
    let e : depth + 1 ≡ suc depth = omega arith in
    ap (λ n. length (blocks n depth) + 1) e ∙ by-depth depth

-- no tree has more tables

one-more : (b : Bool) (m n : ℕ) → m ≤ n → (if b then 1 else 0) + m ≤ suc n
one-more true m n h = omega arith
one-more false m n h = omega arith

count-most : (n : ℕ) (test : ℕ → Bool) → count_below n test ≤ n
count-most zero test = omega arith
count-most (suc n) test = one-more (test n) (count_below n test) n (count-most n test)

blocks-most : (top d : ℕ) (test : Block → Bool) → count_blocks top d test ≤ length (blocks top d)
unfolding blocks
blocks-most top zero test = omega arith
blocks-most top (suc d) test =
    let a = level-length (suc d) (block_pages (top - suc d)) (blocks top d) in
    let here = count-most (block_pages (top - suc d)) (λ i. test (suc d, i)) in
    let rest = blocks-most top d test in
    omega arith

-- with the root's
with-root : (depth : ℕ) → length (blocks (suc depth) (suc depth)) ≡ 1 + length (blocks (suc depth) depth)
unfolding blocks
with-root depth =
    let a = level-length (suc depth) (block_pages (suc depth - suc depth)) (blocks (suc depth) depth) in
    let none : suc depth - suc depth ≡ zero = omega arith in
    let flat : block_pages (suc depth - suc depth) ≡ 1 = ap block_pages none in
    omega arith

pub tables-most : (depth : ℕ) (test : Block → Bool) → count_blocks (depth + 1) (depth + 1) test ≤ most_tables depth
tables-most depth test =
    let e : depth + 1 ≡ suc depth = omega arith in
    let all = blocks-most (suc depth) (suc depth) test in
    let root = with-root depth in
    let below = by-depth depth in
    subst (λ n. count_blocks n n test ≤ most_tables depth) (sym e) (omega arith)

-- placed tables are at blocks of the tree

pub placed-inside : (depth : ℕ) (old : Block → Option ℕ) (bs : List Block) (fs : List ℕ)
    → AreBare depth old bs
    → ((b : Block) (f : ℕ) → old b ≡ Some f → IsInTree depth b)
    → (b : Block) (f : ℕ)
    → placed bs fs old b ≡ Some f
    → IsInTree depth b
placed-inside depth old [] fs h k b f e = k b f e
placed-inside depth old (a ∷ bs) [] h k b f e = k b f e
placed-inside depth old (a ∷ bs) (g ∷ gs) h k b f e = elim (both (block_eq a b)) [
  | inl t ↦ subst (IsInTree depth) (block_eq-same a b t) h.0
  | inr t ↦ placed-inside depth old bs gs h.3 k b f
      (sym (if-false (block_eq a b) (Some g) (placed bs gs old b) t) ∙ e)
]
