use Rattle.std.proofs.Common.{ap, ◌∙◌}
use Rattle.page_state.specs.LayoutView.{layout_of}
use Rattle.page_state.specs.Map.{Map}
use Rattle.page_state.specs.Runs.{map_of}
use Rattle.host_views.specs.Seen.{over, own_in}
use Rattle.free_judge.proofs.Views.{all-seen, lazy-seen}
use Rattle.free_judge.proofs.view.seen_runs.Goals as goal

pub returns-in_ok-seen-clause-map : goal.returns-in_ok-seen-clause-map
returns-in_ok-seen-clause-map c =
    let l = layout_of c.args.layout.now in
    let e = rw c.as_slice.ensures.value at c.in_ok-seen.ensures.map in
    e ∙ ap (λ (m : Map). over m (own_in l.memory.regions)) c.in_ok-kinds.ensures.map
    ∙ lazy-seen c.args.freedoms l (map_of c.args.runs.now) c.if-freedoms.true

pub returns-else-freedoms-clause-map : goal.returns-else-freedoms-clause-map
returns-else-freedoms-clause-map c =
    c.in_ok-kinds.ensures.map
    ∙ all-seen c.args.freedoms (layout_of c.args.layout.now) (map_of c.args.runs.now) c.if-freedoms.false
