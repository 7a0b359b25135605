-- Each tree is the coarsest tree of its map, and what a change of it needs is a function of the map.
use Rattle.std.proofs.Common.{◌≡◌, ℕ, zero, suc, ◌+◌, ◌-◌, ◌*◌, ◌<◌, ◌≤◌, refl, sym, ap, arith, ◌∙◌, true, false, not, is_some, Some, None}
use Rattle.std.proofs.Math.Nat.{mul-lt-mul_of_pos_right}
use Rattle.page_state.specs.declared.entry.Entry.{Entry}
use Rattle.page_state.specs.Tables.{put, need}
use Rattle.page_state.specs.Trees.{Block}
use Rattle.page_state.specs.Blocks.{is_one_word}
use Rattle.page_state.specs.Geometries.{levels_below, input_pages, block_pages}
use Rattle.page_state.proofs.Cases.{by_test, by_lt}
use Rattle.page_state.proofs.Sizes.{size_some, size_split}
use Rattle.table_tree.specs.declared.tree.Tree.{Tree}
use Rattle.table_tree.specs.Meaning.{entry_at}
use Rattle.table_tree.specs.View.{meaning, table_at, tree_of}
use Rattle.table_tree.proofs.OneWord.{one_word_gone, bare_said}
use Rattle.coarse_trees.specs.Coarsest.{IsInTree, wants_table, IsCoarsest, IsCanonical, map_need}
use Rattle.coarse_trees.proofs.Least.{coarsest_is_canonical}
use Rattle.coarse_trees.proofs.Stays.{need_of_maps}
use Rattle.walk_plan.proofs.Cases.{by_option}
use Rattle.walk_plan.proofs.Entries.{word_fits}
use Rattle.walk_plan.proofs.Edited.{said_at, at_said}
use Rattle.walk_plan.proofs.InBlocks.{IsIn, block_within}
use Rattle.walk_plan.proofs.Matched.{meaning_in, table_at_in, all_pages, table_deep, table_past, table_page}
use Rattle.walk_plan.proofs.Numbers.{less_scaled}
use Rattle.walk_plan.proofs.OfTree.{low_depth}

-- an index is below the number of blocks just where its block begins on an input page
index_begins : (n d j : ℕ) → d ≤ n → j < block_pages (n - d) → j * block_pages d < block_pages n
index_begins n d j h l = let e = size_split n d h in
    let m = mul-lt-mul_of_pos_right l (size_some d) in
    omega (arith, e, m)

begins_index : (n d j : ℕ) → d ≤ n → j * block_pages d < block_pages n → j < block_pages (n - d)
begins_index n d j h l = let e = size_split n d h in
    less_scaled j (block_pages (n - d)) (block_pages d) (omega (arith, e))

module _ {A : Type 0} (t : Tree A) where
  abbrev top : ℕ
  top = levels_below t.geometry

  top_pages : input_pages t.geometry ≡ block_pages (top + 1)
  top_pages = refl

  here : (low j : ℕ)
      → low < top
      → j * block_pages (suc low) < input_pages t.geometry
      → (p : ℕ)
      → IsIn (suc low) j p
      → entry_at top t.table p ≡ meaning t p
  here low j l h p k = let e = all_pages t in
      let x = block_within top low j p l (omega arith) k in
      sym (meaning_in t p (omega arith))

  below : (low j : ℕ)
      → low < top
      → j * block_pages (suc low) < input_pages t.geometry
      → is_some (table_at t (suc low) j) ≡ wants_table (meaning t) (suc low, j)
  below low j l h = by_test (is_one_word (meaning t) (suc low, j))
      (λ y.
      let gone =
      one_word_gone top t.table low (j * block_pages (suc low)) t.shaped t.tight l
      (said_at (entry_at top t.table) (meaning t) low j (here low j l h) y) in
      rw (table_at_in t low j h, gone, y) refl)
      (λ n. by_option (table_at t (suc low) j)
      (λ f y. rw (y, n) refl)
      (λ y.
      let a =
      bare_said top t.table low (j * block_pages (suc low)) word_fits (low_depth t.geometry) t.shaped l
      (sym (table_at_in t low j h) ∙ y) in
      let bad : true ≡ false = sym (at_said (entry_at top t.table) (meaning t) low j (here low j l h) a) ∙ n in
      absurd (cc)))

  inside : (d j f : ℕ) → table_at t d j ≡ Some f → IsInTree top (d, j)
  inside zero j f h = let bad : None ≡ Some f = sym (table_page t j) ∙ h in absurd (cc)
  inside (suc low) j f h = by_lt (j * block_pages (suc low)) (input_pages t.geometry)
      (λ y. by_lt top low
      (λ l. let bad : None ≡ Some f =
      sym (table_at_in t low j y ∙ table_deep top low (j * block_pages (suc low)) t.table l) ∙ h in
      absurd (cc))
      (λ l. let e = top_pages in
      record {
        some = omega arith;
        top = omega arith;
        index = begins_index (top + 1) (suc low) j (omega arith) (omega arith);
      }))
      (λ y. let bad : None ≡ Some f = sym (table_past t low j y) ∙ h in absurd (cc))

  each : (b : Block) → IsInTree top b → b.0 ≤ top → is_some (table_at t b.0 b.1) ≡ wants_table (meaning t) b
  each (zero, j) i l = let s : 1 ≤ 0 = i.some in absurd (omega arith)
  each (suc low, j) i l = let e = top_pages in
      let k = i.index in
      let b = index_begins (top + 1) (suc low) j (omega arith) k in
      below low j (omega arith) (omega arith)

  pub tree_coarsest : IsCoarsest top (tree_of t)
  tree_coarsest = record { inside = λ b f h. inside b.0 b.1 f h; below = each }

  pub tree_canonical : IsCanonical top (tree_of t)
  tree_canonical = coarsest_is_canonical top (tree_of t) tree_coarsest

  pub need_by_map : (first count : ℕ) (e : Entry)
      → first + count ≤ input_pages t.geometry
      → need top (tree_of t) (put first count e) ≡ map_need top (meaning t) (put first count e)
  need_by_map first count e within = need_of_maps top (tree_of t) (put first count e) within tree_coarsest
