-- What a walk from the root finds.
use Rattle.std.proofs.Common.{◌≡◌, ℕ, zero, suc, ◌+◌, ◌*◌, ◌<◌, ◌≤◌, true, false, cond, ltb, List, [], ◌++◌, Option, refl, sym, ap, subst, ◌∙◌, arith}
use Rattle.std.proofs.lemmas.Bool.Decides.{nat_tests}
use mathlib.Core.Path.{fun_ext}
use Rattle.page_state.specs.declared.entry.Entry.TheVariants.{Unmapped}
use Rattle.page_state.specs.declared.entry.Run.{Run}
use Rattle.page_state.specs.declared.layout.Geometry.{Geometry}
use Rattle.page_state.specs.Geometries.{levels_below, input_pages, block_pages}
use Rattle.page_state.specs.Map.{Map}
use Rattle.page_state.specs.Runs.{map_of}
use Rattle.page_state.specs.Trees.{Block, Tree as ReferenceTree}
use Rattle.page_state.proofs.Cases.{by_lt}
use Rattle.table_tree.specs.declared.table.Table.{Table}
use Rattle.table_tree.specs.declared.tree.Tree.{Tree as TableTree}
use Rattle.table_tree.specs.Meaning.{entry_at}
use Rattle.table_tree.specs.View.{meaning, table_at, tree_of}
use Rattle.ghost_trees.specs.declared.tree.Table.{Table as FoundTable}
use Rattle.ghost_trees.specs.declared.tree.Tree.{Tree}
use Rattle.ghost_trees.specs.Trees.{table_of, tree_in_lists}
use Rattle.table_tree.specs.Roots.{map_under, table_under, tree_under}
use Rattle.ghost_oracle.specs.inner.Walking.{EndBy, AreRunsTo, GoesOn, found_under}
use Rattle.ghost_oracle.proofs.Ended.{map_ended}
use Rattle.ghost_oracle.proofs.FoundTables.{found_tables}

less_test : (p q : ℕ) → p < q → ltb p q ≡ true
less_test p q h = grind (arith, nat_tests)

more_test : (p q : ℕ) → q ≤ p → ltb p q ≡ false
more_test p q h = grind (arith, nat_tests)

abbrev tree_with : Map → (Block → Option ℕ) → ReferenceTree
tree_with m f = record { map = m; table = f }

same_tree : (m n : Map) (f g : Block → Option ℕ) → m ≡ n → f ≡ g → tree_with m f ≡ tree_with n g
same_tree m n f g e h = rw (e, h) refl

module _ {A : Type 0} (g : Geometry) (t : Table A) (found : Tree) where
  walked_map : (old : Map) → EndBy (input_pages g) found.runs.items
      → GoesOn (entry_at (levels_below g) t) 0 (input_pages g) old (map_of found.runs.items)
      → map_of found.runs.items ≡ map_under g t
  unfolding map_under
  walked_map old r f = fun_ext (λ p. by_lt p (input_pages g)
      (λ l. f p l ∙ ap (λ b. cond b (old p) (entry_at (levels_below g) t p)) (more_test p 0 (omega arith))
      ∙ sym (ap (λ b. cond b (entry_at (levels_below g) t p) Unmapped) (less_test p (input_pages g) l)))
      (λ l. map_ended (input_pages g) p found.runs.items r l
      ∙ sym (ap (λ b. cond b (entry_at (levels_below g) t p) Unmapped) (more_test p (input_pages g) l))))

  walked_tables : found.tables.items ≡ found_under (levels_below g) 0 t
      → table_of found.tables.items ≡ (λ b. table_under g t b.0 b.1)
  walked_tables e = fun_ext (λ b. ap (λ ts. table_of ts b) e ∙ found_tables g t b)

  walked : (old : Map) → AreRunsTo ((0 + 1) * block_pages (levels_below g + 1)) found.runs.items
      → GoesOn (entry_at (levels_below g) t) (0 * block_pages (levels_below g + 1))
      ((0 + 1) * block_pages (levels_below g + 1)) old (map_of found.runs.items)
      → found.tables.items ≡ found_under (levels_below g) 0 t → tree_in_lists found ≡ tree_under g t
  walked old r f e =
      let end : (0 + 1) * block_pages (levels_below g + 1) ≡ input_pages g = omega arith in
      let start : 0 * block_pages (levels_below g + 1) ≡ 0 = omega arith in
      let on : GoesOn (entry_at (levels_below g) t) 0 (input_pages g) old (map_of found.runs.items) =
      subst (λ p. GoesOn (entry_at (levels_below g) t) 0 p old (map_of found.runs.items)) end
      (subst
      (λ p. GoesOn (entry_at (levels_below g) t) p ((0 + 1) * block_pages (levels_below g + 1)) old
      (map_of found.runs.items)) start f) in
      same_tree (map_of found.runs.items) (map_under g t) (table_of found.tables.items) (λ b. table_under g t b.0 b.1)
      (walked_map old (subst (λ p. EndBy p found.runs.items) end r.ended) on) (walked_tables e)

  pub walked_tree : (d : ℕ) (old : List Run) (tables : List FoundTable)
      → d ≡ levels_below g
      → tables ≡ []
      → AreRunsTo ((0 + 1) * block_pages (d + 1)) found.runs.items
      → GoesOn (entry_at d t) (0 * block_pages (d + 1)) ((0 + 1) * block_pages (d + 1)) (map_of old)
      (map_of found.runs.items)
      → found.tables.items ≡ tables ++ found_under d 0 t → tree_in_lists found ≡ tree_under g t
  walked_tree d old tables e n =
      subst (λ x. AreRunsTo ((0 + 1) * block_pages (x + 1)) found.runs.items
      → GoesOn (entry_at x t) (0 * block_pages (x + 1)) ((0 + 1) * block_pages (x + 1)) (map_of old)
      (map_of found.runs.items)
      → found.tables.items ≡ tables ++ found_under x 0 t → tree_in_lists found ≡ tree_under g t) (sym e)
      (λ r f h. walked (map_of old) r f (h ∙ ap (λ xs. xs ++ found_under (levels_below g) 0 t) n))

-- of a tree that stands it is the tree
module _ {A : Type 0} (t : TableTree A) where
  same_frame : (depth number : ℕ) → table_under t.geometry t.table depth number ≡ table_at t depth number
  unfolding table_under table_at
  same_frame zero number = refl
  same_frame (suc low) number = refl

  same_map : map_under t.geometry t.table ≡ meaning t
  unfolding map_under meaning
  same_map = refl

  pub tree_under_of : tree_under t.geometry t.table ≡ tree_of t
  tree_under_of =
      same_tree (map_under t.geometry t.table) (meaning t) (λ b. table_under t.geometry t.table b.0 b.1)
      (λ b. table_at t b.0 b.1) same_map (fun_ext (λ b. same_frame b.0 b.1))
