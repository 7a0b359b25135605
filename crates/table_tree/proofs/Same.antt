-- What contracts see of a tree hangs on its geometry and its root table: its spares tell nothing.
use Rattle.std.proofs.Common.{◌≡◌, ℕ, zero, suc, ◌*◌, refl, sym, ap, ◌∙◌, cond, None}
use Rattle.std.specs.Prelude.{nat_lt}
use mathlib.Core.Path.{fun_ext}
use Rattle.page_state.specs.declared.entry.Entry.TheVariants.{Unmapped}
use Rattle.page_state.specs.declared.layout.Geometry.{Geometry}
use Rattle.page_state.specs.Trees.{Tree as ReferenceTree}
use Rattle.page_state.specs.Geometries.{levels_below, input_pages, block_pages}
use Rattle.page_state.proofs.Edits.{tree-same}
use Rattle.table_tree.specs.declared.table.Table.{Table}
use Rattle.table_tree.specs.declared.tree.Tree.{Tree}
use Rattle.table_tree.specs.Meaning.{entry_at, frame_of}
use Rattle.table_tree.specs.Stocks.{kept_in}
use Rattle.table_tree.specs.Tables.{tables_in, uses_in, table_in}
use Rattle.table_tree.specs.View.{tree_of, meaning, table_at, uses, tables_of, root_of, spares_of}
use Rattle.table_tree.specs.Roots.{map_under, table_under}

module _ {A : Type 0} where
  pub root_is : (t u : Tree A) → frame_of u.table ≡ frame_of t.table → root_of u ≡ root_of t
  unfolding root_of
  root_is t u h = h

  pub uses_are : (t : Tree A) (f : ℕ) → uses t f ≡ uses_in (levels_below t.geometry) t.table f
  unfolding uses
  uses_are t f = refl

  pub tables_are : (t : Tree A) → tables_of t ≡ tables_in (levels_below t.geometry) t.table
  unfolding tables_of
  tables_are t = refl

  by_table : {R : Type 0} (t u : Tree A)
      → t.geometry ≡ u.geometry
      → t.table ≡ u.table
      → (of : Geometry → Table A → R)
      → of t.geometry t.table ≡ of u.geometry u.table
  by_table t u g h of = ap (λ x. of x t.table) g ∙ ap (λ x. of u.geometry x) h

  same_at : (depth number : ℕ) (t u : Tree A)
      → t.geometry ≡ u.geometry
      → t.table ≡ u.table
      → table_at t depth number ≡ table_at u depth number
  unfolding table_at table_under
  same_at zero number t u g h = refl
  same_at (suc low) number t u g h =
      by_table t u g h
      (λ x y. cond (nat_lt (number * block_pages (suc low)) (input_pages x))
      (table_in (levels_below x) y low (number * block_pages (suc low))) None)

  pub same_meaning : (t u : Tree A) → t.geometry ≡ u.geometry → t.table ≡ u.table → meaning t ≡ meaning u
  unfolding meaning map_under
  same_meaning t u g h =
      fun_ext
      (λ page. by_table t u g h
      (λ x y. cond (nat_lt page (input_pages x)) (entry_at (levels_below x) y page) Unmapped))

  pub same_tree : (t u : Tree A) → t.geometry ≡ u.geometry → t.table ≡ u.table → tree_of t ≡ tree_of u
  same_tree t u g h = tree-same (same_meaning t u g h) (fun_ext (λ b. same_at b.0 b.1 t u g h))

  pub same_uses : (t u : Tree A) → t.geometry ≡ u.geometry → t.table ≡ u.table → (f : ℕ) → uses t f ≡ uses u f
  same_uses t u g h f =
      uses_are t f ∙ ap (λ x. uses_in (levels_below x) t.table f) g ∙ ap (λ x. uses_in (levels_below u.geometry) x f) h
      ∙ sym (uses_are u f)

  pub same_count : (t u : Tree A) → t.geometry ≡ u.geometry → t.table ≡ u.table → tables_of t ≡ tables_of u
  same_count t u g h =
      tables_are t ∙ ap (λ x. tables_in (levels_below x) t.table) g ∙ ap (λ x. tables_in (levels_below u.geometry) x) h
      ∙ sym (tables_are u)

  pub same_spares : (t u : Tree A) → t.spares ≡ u.spares → spares_of t ≡ spares_of u
  unfolding spares_of
  same_spares t u h = ap (λ s. kept_in s) h

  -- anything told of the geometry and the reference tree
  pub by_views : {R : Type 0} (t u : Tree A)
      → t.geometry ≡ u.geometry
      → t.table ≡ u.table
      → (of : Geometry → ReferenceTree → R)
      → of t.geometry (tree_of t) ≡ of u.geometry (tree_of u)
  by_views t u g h of = ap (λ x. of x (tree_of t)) g ∙ ap (λ x. of u.geometry x) (same_tree t u g h)
