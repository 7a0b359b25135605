-- A map has one coarsest tree, and no tree of the map has fewer tables.
use Rattle.std.proofs.Common.{◌≡◌, ℕ, zero, suc, ◌+◌, ◌-◌, ◌*◌, ◌/◌, ◌%◌, ◌<◌, ◌≤◌, refl, sym, ap, subst, arith, ◌∙◌, Bool, true, false, not, is_some, Some, List}
use Rattle.page_state.specs.Blocks.{is_one_word}
use Rattle.page_state.specs.Geometries.{block_pages}
use Rattle.page_state.specs.Map.{Map}
use Rattle.page_state.specs.Trees.{Block, Tree}
use Rattle.page_state.proofs.BlockTests.{block-same}
use Rattle.page_state.proofs.Cases.{by_test, by_lt}
use Rattle.page_state.proofs.Common.{not-false}
use Rattle.page_state.proofs.Sizes.{size_step}
use Rattle.coarse_trees.specs.Coarsest.{IsInTree, wants_table, IsCoarsest, block_above, IsTreeOf, table_number}
use Rattle.coarse_trees.specs.Laws.{CoarsestIsCanonical, CoarsestIsTree, FullIsTree}
use Rattle.coarse_trees.proofs.Lists.{some-of, some-made, filter-fewer}
use Rattle.coarse_trees.proofs.OneWord.{parts_are_one_word}

one_coarsest : (depth : ℕ) (t u : Tree)
    → IsCoarsest depth t
    → IsCoarsest depth u
    → u.map ≡ t.map
    → (b : Block)
    → IsInTree depth b
    → b.0 ≤ depth
    → is_some (u.table b) ≡ is_some (t.table b)
one_coarsest depth t u p q e b i l = q.below b i l ∙ ap (λ (m : Map). wants_table m b) e ∙ sym (p.below b i l)

-- the block above one of a tree is one of it
above-index : (n k j : ℕ) → n ≡ suc k → j < block_pages n → j / 512 < block_pages k
above-index n k j e h = let x = size_step k in
    let y : j < block_pages (suc k) = subst (λ z. j < block_pages z) e h in
    omega arith

above-in : (depth : ℕ) (b : Block) → IsInTree depth b → b.0 ≤ depth → IsInTree depth (block_above b)
above-in depth b h l =
    let i = h.index in
    record {
      some = omega arith;
      top = omega arith;
      index = above-index (depth + 1 - b.0) (depth + 1 - (b.0 + 1)) b.1 (omega arith) i;
    }

-- no word can say it where none can say its part
above-not : (m : Map) (d j : ℕ) → is_one_word m (d, j) ≡ false → is_one_word m (d + 1, j / 512) ≡ false
above-not m d j h = by_test (is_one_word m (d + 1, j / 512))
    (λ t.
    let e : suc d ≡ d + 1 = omega arith in
    let t' : is_one_word m (suc d, j / 512) ≡ true = subst (λ z. is_one_word m (z, j / 512) ≡ true) (sym e) t in
    let p = parts_are_one_word m d (j / 512) (j % 512) (omega arith) t' in
    let k : 512 * (j / 512) + j % 512 ≡ j = omega arith in
    let p' : is_one_word m (d, j) ≡ true = subst (λ z. is_one_word m (d, z) ≡ true) k p in
    let bad : true ≡ false = sym p' ∙ h in
    cc)
    (λ t. t)

root-only : (depth : ℕ) (b : Block) → IsInTree depth b → b.0 ≡ depth + 1 → b ≡ (depth + 1, 0)
root-only depth b h e =
    let z : depth + 1 - b.0 ≡ 0 = omega arith in
    let i : b.1 < block_pages 0 = subst (λ n. b.1 < block_pages n) z h.index in
    block-same e (omega arith)

module _ (depth : ℕ) (u : Tree) (tree : IsTreeOf depth u) where
  -- a tree has a table at each block that no word can say: from the root down
  stands : (k : ℕ) (b : Block)
      → IsInTree depth b
      → b.0 + k ≡ depth + 1
      → is_one_word u.map b ≡ false
      → is_some (u.table b) ≡ true
  stands zero b i e n = let r = root-only depth b i (omega arith) in
      ap (λ (a : Block). is_some (u.table a)) r ∙ tree.root
  stands (suc k) b i e n =
      let l : b.0 ≤ depth = omega arith in
      let up = stands k (block_above b) (above-in depth b i l) (omega arith) (above-not u.map b.0 b.1 n) in
      by_test (is_some (u.table b))
      (λ y. y)
      (λ y. let bad : true ≡ false = sym (tree.words b i l up y) ∙ n in cc)

-- where the coarsest tree of a map has a table, each tree of the map has one
fewest_tables : (depth : ℕ) (t u : Tree)
    → IsCoarsest depth t
    → IsTreeOf depth u
    → u.map ≡ t.map
    → (b : Block) (f : ℕ)
    → t.table b ≡ Some f
    → is_some (u.table b) ≡ true
fewest_tables depth t u p tree e b f h =
    let i = p.inside b f h in
    let top = i.top in
    by_lt depth b.0
    (λ l. let r = root-only depth b i (omega arith) in ap (λ (a : Block). is_some (u.table a)) r ∙ tree.root)
    (λ l.
    let want : not (is_one_word t.map b) ≡ true = sym (p.below b i l) ∙ some-made (t.table b) f h in
    let n : is_one_word u.map b ≡ false = ap (λ (m : Map). is_one_word m b) e ∙ not-said (is_one_word t.map b) want in
    stands depth u tree (depth + 1 - b.0) b i (omega arith) n)
  where
    not-said : (w : Bool) → not w ≡ true → w ≡ false
    not-said true h = cc
    not-said false h = refl

-- so no tree of the map has fewer
fewest_counted : (depth : ℕ) (t u : Tree)
    → IsCoarsest depth t
    → IsTreeOf depth u
    → u.map ≡ t.map
    → (bs : List Block)
    → table_number t bs ≤ table_number u bs
fewest_counted depth t u p tree e bs =
    filter-fewer (λ b. is_some (t.table b)) (λ b. is_some (u.table b)) bs
    (λ b h. let x = some-of (t.table b) h in fewest_tables depth t u p tree e b x.0 x.1)

pub coarsest_is_canonical : CoarsestIsCanonical
coarsest_is_canonical depth t p = record {
  coarsest = p;
  only = λ u q e b i l. one_coarsest depth t u p q e b i l;
  fewest = λ u q e bs. fewest_counted depth t u p q e bs;
}

pub coarsest_is_tree : CoarsestIsTree
coarsest_is_tree depth t p root = record {
  root = root;
  words = λ b i l up none. not-wanted (is_one_word t.map b) (sym (p.below b i l) ∙ none);
}
  where
    not-wanted : (w : Bool) → not w ≡ false → w ≡ true
    not-wanted true h = refl
    not-wanted false h = cc

pub full_is_tree : FullIsTree
full_is_tree depth m frame = record { root = refl; words = λ b i l up none. cc }
