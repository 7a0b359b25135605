use Rattle.std.proofs.Common.{◌∙◌}
use Rattle.page_state.specs.LayoutView.{layout_of}
use Rattle.page_state.specs.Runs.{map_of}
use Rattle.free_judge.proofs.Views.{kinds-seen}
use Rattle.free_judge.proofs.view.kinds.Goals as goal

pub returns-in_ok-seen-clause-map : goal.returns-in_ok-seen-clause-map
returns-in_ok-seen-clause-map c =
    c.in_ok-seen.ensures.map
    ∙ kinds-seen c.args.freedoms (layout_of c.args.layout.now) (map_of c.args.runs.now) c.if-freedoms.true
