use Rattle.std.proofs.Common.{◌∙◌, ap, subst}
use Rattle.page_state.specs.LayoutView.{layout_of}
use Rattle.page_state.specs.Rows.{advance_row}
use Rattle.run_list.specs.Runs.{run_map}
use Rattle.ghost_trees.specs.Trees.{tree_in_lists}
use Rattle.ghost_spec.specs.States.{contents_in}
use Rattle.table_audit.specs.Found.{trees_in, AreTreesOf}
use Rattle.table_audit.proofs.Guests.{all_made, found_contents, guests_at}
use Rattle.table_audit.proofs.walked.walked_lists.Goals as goal

pub returns-clause-contents : goal.returns-clause-contents
returns-clause-contents c =
    found_contents (contents_in c.into_lists-lists.result) (contents_in c.args.kept.now)
    (layout_of c.into_lists-lists.result.layout) (layout_of c.args.kept.now.layout) (trees_in c.args.trees.now)
    (tree_in_lists c.in-Ok.made.host) (tree_in_lists c.in-Ok.made.hyp) (guests_at c.in-Ok.made.guests.items)
    (run_map advance_row c.in-Ok-rows_from_scratch.rows.runs)
    (ap (λ g. contents_in g) c.into_lists-lists.ensures.value ∙ ap (λ r. r.contents) c.in_ok-copy.ensures.state)
    (ap (λ g. layout_of g.layout) c.into_lists-lists.ensures.value ∙ c.in_ok-copy.ensures.layout)
    c.in-Ok.ensures.found.host c.in-Ok.ensures.found.hyp
    (all_made c.into_lists-lists.result.guests.items c.args.trees.now c.in-Ok.made.guests.items
    c.into_lists-lists.ensures.kept.guests_count c.requires.trees c.in-Ok.ensures.found.count
    (subst
    (λ gs. AreTreesOf gs c.args.trees.now 64 c.in-Ok.made.guests.items) c.as_slice.ensures.value
    c.in-Ok.ensures.found.guests))
    c.in-Ok-rows_from_scratch.ensures.rows
