-- A state that is checked, as plain lists say it.
use Rattle.std.proofs.Common.{◌≡◌, ◌∙◌, ℕ, ◌+◌, ◌/◌, ◌<◌, ◌≤◌, true, false, List, length, map, get_or, sym, ap, arith, add-one}
use Rattle.std.specs.Prelude.{nat_lt}
use Rattle.std.proofs.lemmas.Bool.Decides.{nat_tests}
use mathlib.Core.Path.{fun_ext}
use Rattle.page_state.specs.declared.layout.Geometry.{Geometry}
use Rattle.page_state.specs.Map.{Map}
use Rattle.page_state.specs.Trees.{no_tree}
use Rattle.page_state.proofs.Cases.{by_lt}
use Rattle.page_state.proofs.Common.{if-true, if-false}
use Rattle.ghost_trees.specs.declared.tree.Tree.{Tree as TreeOfLists}
use Rattle.ghost_trees.specs.Trees.{tree_in_lists}
use Rattle.ghost_judge.proofs.Judged.{past_end}
use Rattle.walked_tables.specs.declared.follow.TablePage.{TablePage}
use Rattle.c_trees.specs.declared.root.PlainRoot.{PlainRoot}
use Rattle.c_trees.specs.Given.{tree_of, AreTrees}
use Rattle.table_audit.specs.Found.{trees_in}
use Rattle.pkvm_oracle.specs.Audited.{parent, trees_from_c}

pub parent_more : (n index : ℕ) → parent (n + 1) index ≡ parent n index / 512
parent_more n index = ap (λ k. parent k index) (add-one n)

less_test : (p q : ℕ) → p < q → nat_lt p q ≡ true
less_test p q h = grind (arith, nat_tests)

more_test : (p q : ℕ) → q ≤ p → nat_lt p q ≡ false
more_test p q h = grind (arith, nat_tests)

pub same_trees : (g : Geometry) (pages : List TablePage) (roots : List PlainRoot) (kept : ℕ → Map)
    (trees : List TreeOfLists)
    → length trees ≡ 66
    → AreTrees g pages roots kept (λ k. get_or (map tree_in_lists trees) k no_tree)
    → trees_in trees ≡ trees_from_c g pages roots kept
same_trees g pages roots kept trees n x = fun_ext (λ k. by_lt k 66
    (λ l. x.trees_are k l ∙ sym (if-true (nat_lt k 66) (tree_of g pages roots kept k) no_tree (less_test k 66 l)))
    (λ l. past_end tree_in_lists no_tree trees k (omega (arith, n, l))
    ∙ sym (if-false (nat_lt k 66) (tree_of g pages roots kept k) no_tree (more_test k 66 l))))
