-- What the root table of a tree says is the tree.
use Rattle.std.proofs.Common.{◌≡◌, ℕ, zero, suc, refl, ap, ◌∙◌, Option, sym}
use mathlib.Core.Path.{fun_ext}
use Rattle.page_state.proofs.Common.{same2}
use Rattle.page_state.specs.Map.{Map}
use Rattle.page_state.specs.Runs.{map_of}
use Rattle.page_state.specs.Trees.{Block, Tree as ReferenceTree}
use Rattle.table_tree.specs.declared.tree.Tree.{Tree}
use Rattle.table_tree.specs.View.{meaning, table_at, tree_of}
use Rattle.component.specs.declared.Component.{Component}
use Rattle.ghost_trees.specs.declared.tree.Tree.{Tree as TreeOfLists}
use Rattle.ghost_trees.specs.Trees.{table_of, tree_in_lists}
use Rattle.table_tree.specs.Roots.{map_under, table_under, tree_under}

map_same : {A : Type 0} (t : Tree A) (page : ℕ) → map_under t.geometry t.table page ≡ meaning t page
unfolding map_under meaning
map_same t page = refl

table_same : {A : Type 0} (t : Tree A) (depth number : ℕ)
    → table_under t.geometry t.table depth number ≡ table_at t depth number
unfolding table_under table_at
table_same t zero number = refl
table_same t (suc depth) number = refl

pub under_tree : {A : Type 0} (t : Tree A) → tree_under t.geometry t.table ≡ tree_of t
under_tree t =
    same2 (λ (m : Map) (table : Block → Option ℕ). record { map = m; table = table }) (fun_ext (map_same t))
    (fun_ext (λ b. table_same t b.0 b.1))

-- a tree with the runs of maplets that say its map, and with its tables
pub of_kept : {A : Type 0} (c : Component A) (u walked : TreeOfLists)
    → tree_in_lists walked ≡ tree_of c.tree
    → u.runs.items ≡ c.maplets.runs
    → u.tables.items ≡ walked.tables.items
    → tree_in_lists u ≡ tree_of c.tree
of_kept c u walked found runs tables = same2 (λ (m : Map) (table : Block → Option ℕ). record { map = m; table = table })
    (ap map_of runs ∙ sym c.agree)
    (ap table_of tables ∙ ap (λ (r : ReferenceTree). r.table) found)
