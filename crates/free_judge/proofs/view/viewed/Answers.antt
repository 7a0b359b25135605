use Rattle.std.proofs.Common.{◌≡◌, ap, ◌∙◌}
use Rattle.page_state.specs.LayoutView.{layout_of}
use Rattle.page_state.specs.Runs.{map_of}
use Rattle.freedoms.specs.Freedoms.{view_entry}
use Rattle.freedoms.specs.OwnTables.{without_tables}
use Rattle.ghost_spec.specs.declared.lists.GhostLists.{GhostLists}
use Rattle.ghost_spec.specs.States.{contents_in}
use Rattle.free_judge.proofs.Views.{viewed-by}
use Rattle.free_judge.proofs.view.viewed.Goals as goal

pub returns-clause-contents : goal.returns-clause-contents
returns-clause-contents c =
    let l = layout_of c.args.layout.now in
    let w = c.args.freedoms in
    let s : contents_in c.into_lists-seen.result ≡ without_tables (contents_in c.args.state.now) =
    ap contents_in c.into_lists-seen.ensures.value ∙ c.in_ok-without.ensures.contents in
    let runs : map_of c.in_ok-runs.runs.items ≡ (λ p. view_entry w l p (map_of c.args.state.now.shared.host.runs.items p)) =
    rw c.as_slice.ensures.value at c.in_ok-runs.ensures.map
    ∙ ap
    (λ (g : GhostLists). λ p. view_entry w l p
    (map_of g.shared.host.runs.items p)) c.lists-lists.ensures.value in
    ap contents_in c.of_kept.ensures
    ∙ viewed-by w l (contents_in c.into_lists-seen.result) (contents_in c.args.state.now)
    (map_of c.in_ok-runs.runs.items) s runs
