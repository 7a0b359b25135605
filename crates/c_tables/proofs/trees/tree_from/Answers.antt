use Rattle.std.proofs.Common.{◌≡◌, ◌∙◌, ◌++◌, [], sym, ap, subst}
use Rattle.std.specs.Prelude.{IfErr, IfOk, OnOk}
use Rattle.std.proofs.lemmas.List.{append-nil}
use Rattle.page_state.specs.Trees.{no_tree}
use Rattle.ghost_trees.specs.Trees.{tree_in_lists}
use Rattle.c_tables.specs.ByFrames.{led_case, tables_by_frames, tree_by_frames}
use Rattle.c_tables.specs.Reached.{IsStopped}
use Rattle.c_tables.proofs.Roots.{root_whole}
use Rattle.c_tables.proofs.trees.tree_from.Goals as goal

pub walked-requires-clause-root : goal.walked-requires-clause-root
walked-requires-clause-root c =
    root_whole c.args.pages.now c.args.roots.now c.args.tree c.in-Some.root
    (sym c.root_of.ensures ∙ c.in-Some.is) c.requires.whole

pub returns-in-Some-clause-tree : goal.returns-in-Some-clause-tree
returns-in-Some-clause-tree c =
    subst
    (λ o. IfOk c.walked.result
    (λ t. tree_in_lists t ≡ led_case no_tree (tree_by_frames c.args.geometry c.args.pages.now c.args.tree) o))
    (sym (sym c.root_of.ensures ∙ c.in-Some.is)) c.walked.ensures.tree

pub returns-in-Some-clause-met : goal.returns-in-Some-clause-met
returns-in-Some-clause-met c =
    subst
    (λ o. OnOk c.walked.result
    (c.walked.new.met.items
    ≡ c.args.met.now.items
    ++ led_case [] (tables_by_frames c.args.geometry c.args.pages.now c.args.tree) o))
    (sym (sym c.root_of.ensures ∙ c.in-Some.is)) c.walked.ensures.met

pub returns-in-Some-clause-stopped : goal.returns-in-Some-clause-stopped
returns-in-Some-clause-stopped c =
    subst
    (λ o. IfErr c.walked.result
    (IsStopped
    (c.args.met.now.items
    ++ led_case [] (tables_by_frames c.args.geometry c.args.pages.now c.args.tree) o)))
    (sym (sym c.root_of.ensures ∙ c.in-Some.is)) c.walked.ensures.stopped

pub returns-in-None-clause-tree : goal.returns-in-None-clause-tree
returns-in-None-clause-tree c =
    c.none.ensures.none
    ∙ ap (λ o. led_case no_tree (tree_by_frames c.args.geometry c.args.pages.now c.args.tree) o)
    (sym (sym c.root_of.ensures ∙ c.in-None.is))

pub returns-in-None-clause-met : goal.returns-in-None-clause-met
returns-in-None-clause-met c =
    sym
    (ap
    (λ o. c.args.met.now.items ++ led_case [] (tables_by_frames c.args.geometry c.args.pages.now c.args.tree) o)
    (sym c.root_of.ensures ∙ c.in-None.is)
    ∙ append-nil c.args.met.now.items)
