-- What a walk from a root finds.
use Rattle.std.proofs.Common.{◌≡◌, ℕ, ◌+◌, ◌*◌, ◌<◌, ◌≤◌, true, false, Option, List, [], ◌++◌, length, drop, map, refl, sym, ap, subst, ◌∙◌, arith}
use Rattle.std.specs.Prelude.{nat_lt}
use Rattle.std.proofs.lemmas.Bool.Decides.{nat_tests}
use Rattle.std.proofs.lemmas.List.Elements.{All-weaker}
use Rattle.std.proofs.lemmas.List.Prefix.{front_rest}
use mathlib.Core.Path.{fun_ext}
use Rattle.page_state.specs.declared.entry.Entry.TheVariants.{Unmapped}
use Rattle.page_state.specs.declared.entry.Target.{Target}
use Rattle.page_state.specs.declared.entry.Target.TheVariants.{Malformed, Annotated, Leaf}
use Rattle.page_state.specs.declared.layout.Geometry.{Geometry}
use Rattle.page_state.specs.Entries.{advance_target, entry_of_target}
use Rattle.page_state.specs.Geometries.{block_pages, input_pages, levels_below}
use Rattle.page_state.specs.Map.{Map, is_within}
use Rattle.page_state.specs.Runs.{IsCoarsest, map_of}
use Rattle.page_state.specs.Trees.{Block, Tree as ReferenceTree}
use Rattle.page_state.proofs.Cases.{by_lt}
use Rattle.page_state.proofs.Common.{if-true, if-false}
use Rattle.run_list.specs.declared.run.Run.{Run}
use Rattle.run_list.specs.Targets.{HasFrameBelow}
use Rattle.run_list.specs.View.{IsKept}
use Rattle.maplets.specs.View.{IsInReach, target_runs}
use Rattle.maplets.proofs.TargetRuns.{coarsest_targets, reach_targets}
use Rattle.ghost_trees.specs.declared.tree.Tree.{Tree}
use Rattle.ghost_trees.specs.KeptTrees.{IsKeptTree}
use Rattle.ghost_trees.specs.Small.{AreSmall, HasLowFrames, IsSmall}
use Rattle.ghost_trees.specs.Trees.{table_of, tree_in_lists}
use Rattle.c_tables.specs.declared.follow.PlainPage.{PlainPage}
use Rattle.c_tables.specs.declared.reached.Reached.{Reached}
use Rattle.c_tables.specs.ByFrames.{entry_by, map_by_frames, tables_under, tree_by_frames}
use Rattle.c_tables.specs.Laid.{laid, target_map}

inside : (n p : ℕ) → p < n → is_within 0 n p ≡ true
inside n p l = grind (arith, nat_tests)

outside : (n p : ℕ) → n ≤ p → is_within 0 n p ≡ false
outside n p l = grind (arith, nat_tests)

less_test : (p q : ℕ) → p < q → nat_lt p q ≡ true
less_test p q h = grind (arith, nat_tests)

more_test : (p q : ℕ) → q ≤ p → nat_lt p q ≡ false
more_test p q h = grind (arith, nat_tests)

low_frames : (t : Target) (n : ℕ) → HasFrameBelow t n → HasLowFrames (entry_of_target t) n
low_frames Malformed n h = tt
low_frames (Annotated owner) n h = tt
low_frames (Leaf frame prot kind state) n h = h

small_runs : (rs : List (Run Target)) → IsKept advance_target HasFrameBelow rs → AreSmall (target_runs rs)
small_runs rs k =
    All-weaker IsInReach IsSmall (λ r h. (h.0, low_frames r.target r.pages.count h.1)) (target_runs rs)
    (reach_targets rs k.in_reach)

pub kept_tree : (t : Tree) (rs : List (Run Target))
    → t.runs.items ≡ target_runs rs
    → IsKept advance_target HasFrameBelow rs
    → IsKeptTree t
kept_tree t rs e k = record {
  small = subst AreSmall (sym e) (small_runs rs k);
  coarsest = subst IsCoarsest (sym e) (coarsest_targets rs k.coarsest);
}

abbrev tree_with : Map → (Block → Option ℕ) → ReferenceTree
tree_with m f = record { map = m; table = f }

module _ (g : Geometry) (pages : List PlainPage) (root : PlainPage) where
  from_page : (m old : Map)
      → m ≡ laid 0 (input_pages g) (entry_by pages (levels_below g) root) old
      → old ≡ (λ p. Unmapped)
      → (p : ℕ)
      → m p ≡ map_by_frames g pages root p
  unfolding map_by_frames
  from_page m old e none p =
      let at : m p ≡ laid 0 (input_pages g) (entry_by pages (levels_below g) root) old p = ap (λ n. n p) e in
      by_lt p (input_pages g)
      (λ l. at
      ∙ if-true (is_within 0 (input_pages g) p) (entry_by pages (levels_below g) root p) (old p)
      (inside (input_pages g) p l)
      ∙ sym
      (if-true (nat_lt p (input_pages g)) (entry_by pages (levels_below g) root p) Unmapped
      (less_test p (input_pages g) l)))
      (λ l. at
      ∙ if-false (is_within 0 (input_pages g) p) (entry_by pages (levels_below g) root p) (old p)
      (outside (input_pages g) p l)
      ∙ ap (λ n. n p) none
      ∙ sym
      (if-false (nat_lt p (input_pages g)) (entry_by pages (levels_below g) root p) Unmapped
      (more_test p (input_pages g) l)))

  from_root : (m : Map) (d : ℕ) (old : List (Run Target))
      → d ≡ levels_below g
      → old ≡ []
      → m ≡ laid (0 * block_pages (d + 1)) (block_pages (d + 1)) (entry_by pages d root) (target_map old)
      → m ≡ map_by_frames g pages root
  from_root m d old e none h =
      let start : 0 * block_pages (levels_below g + 1) ≡ 0 = omega arith in
      let so : m ≡ laid (0 * block_pages (levels_below g + 1)) (input_pages g) (entry_by pages (levels_below g) root) (target_map old) =
      subst
      (λ x. m
      ≡ laid (0 * block_pages (x + 1)) (block_pages (x + 1)) (entry_by pages x root) (target_map old)) e h
      in
      fun_ext
      (from_page m (target_map old)
      (so ∙ ap (λ k. laid k (input_pages g) (entry_by pages (levels_below g) root) (target_map old)) start)
      (ap target_map none))

  same_tree : (m n : Map) (f h : Block → Option ℕ) → m ≡ n → f ≡ h → tree_with m f ≡ tree_with n h
  same_tree m n f h e k = rw (e, k) refl

  pub found_tree : (tree d : ℕ) (t : Tree) (old rs : List (Run Target)) (met₀ met : List Reached) (start : ℕ)
      → d ≡ levels_below g
      → old ≡ []
      → start ≡ length met₀
      → target_map rs ≡ laid (0 * block_pages (d + 1)) (block_pages (d + 1)) (entry_by pages d root) (target_map old)
      → met ≡ met₀ ++ tables_under pages tree d 0 root
      → t.runs.items ≡ target_runs rs → t.tables.items ≡ map (λ r. r.table) (drop start met)
      → tree_in_lists t ≡ tree_by_frames g pages tree root
  found_tree tree d t old rs met₀ met start e none at m f r s =
      let rest : drop start met ≡ tables_under pages tree (levels_below g) 0 root =
      ap (λ k. drop k met) at ∙ front_rest met met₀ (tables_under pages tree d 0 root) f
      ∙ ap (λ k. tables_under pages tree k 0 root) e in
      same_tree (map_of t.runs.items) (map_by_frames g pages root) (table_of t.tables.items)
      (table_of (map (λ r. r.table) (tables_under pages tree (levels_below g) 0 root)))
      (ap map_of r ∙ from_root (target_map rs) d old e none m)
      (ap table_of (s ∙ ap (map (λ x. x.table)) rest))
