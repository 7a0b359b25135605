use Rattle.std.proofs.Common.{◌≡◌, ◌∙◌, ◌++◌, [], sym, ap, subst}
use Rattle.std.specs.Prelude.{IfErr, IfOk, OnOk}
use Rattle.std.proofs.lemmas.List.{append-nil}
use Rattle.page_state.specs.Trees.{no_tree}
use Rattle.ghost_spec.specs.States.{contents_in}
use Rattle.ghost_trees.specs.Trees.{tree_in_lists}
use Rattle.walked_tables.specs.Reached.{IsStopped}
use Rattle.walked_tables.proofs.Slots.{found_in}
use Rattle.c_trees.specs.Entries.{kept_map}
use Rattle.c_trees.specs.Given.{rooted}
use Rattle.c_trees.specs.Roots.{IsGoodRoot}
use Rattle.c_trees.specs.Trees.{tables_by_root, tree_by_root}
use Rattle.c_trees.proofs.trees.tree_from.Goals as goal

pub tree_of_root-requires-clause-root : goal.tree_of_root-requires-clause-root
tree_of_root-requires-clause-root c =
    found_in IsGoodRoot _ c.args.roots.now c.in-Some.root (sym c.root_in.ensures ∙ c.in-Some.is) c.requires.given.good

pub returns-in-Some-clause-tree : goal.returns-in-Some-clause-tree
returns-in-Some-clause-tree c =
    subst
    (λ o. IfOk c.tree_of_root.result
    (λ t. tree_in_lists t
    ≡ rooted no_tree
    (λ r. tree_by_root c.args.geometry c.args.pages.now r (kept_map (contents_in c.args.kept.now) c.args.tree)) o))
    (sym (sym c.root_in.ensures ∙ c.in-Some.is))
    (subst
    (λ m. IfOk c.tree_of_root.result
    (λ t. tree_in_lists t ≡ tree_by_root c.args.geometry c.args.pages.now c.in-Some.root m))
    c.kept_tree.ensures.map c.tree_of_root.ensures.tree)

pub returns-in-Some-clause-met : goal.returns-in-Some-clause-met
returns-in-Some-clause-met c =
    subst
    (λ o. OnOk c.tree_of_root.result
    (c.tree_of_root.new.met.items
    ≡ c.args.met.now.items
    ++ rooted [] (tables_by_root c.args.geometry c.args.pages.now) o))
    (sym (sym c.root_in.ensures ∙ c.in-Some.is)) c.tree_of_root.ensures.met

pub returns-in-Some-clause-stopped : goal.returns-in-Some-clause-stopped
returns-in-Some-clause-stopped c =
    subst
    (λ o. IfErr c.tree_of_root.result
    (IsStopped
    (c.args.met.now.items
    ++ rooted [] (tables_by_root c.args.geometry c.args.pages.now) o)))
    (sym (sym c.root_in.ensures ∙ c.in-Some.is)) c.tree_of_root.ensures.stopped

pub returns-in-None-clause-tree : goal.returns-in-None-clause-tree
returns-in-None-clause-tree c =
    c.none.ensures.none
    ∙ ap
    (λ o. rooted no_tree
    (λ r. tree_by_root c.args.geometry c.args.pages.now r (kept_map (contents_in c.args.kept.now) c.args.tree)) o)
    (sym (sym c.root_in.ensures ∙ c.in-None.is))

pub returns-in-None-clause-met : goal.returns-in-None-clause-met
returns-in-None-clause-met c =
    sym
    (ap
    (λ o. c.args.met.now.items ++ rooted [] (tables_by_root c.args.geometry c.args.pages.now) o)
    (sym c.root_in.ensures ∙ c.in-None.is)
    ∙ append-nil c.args.met.now.items)
