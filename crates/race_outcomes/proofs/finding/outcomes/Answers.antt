use Rattle.std.proofs.Common.{subst}
use Rattle.page_state.specs.LayoutView.{layout_of}
use Rattle.ghost_spec.specs.States.{ghost_state}
use Rattle.race_outcomes.specs.Layers.{AreOutcomes}
use Rattle.race_outcomes.proofs.Found.{all_outcomes}
use Rattle.race_outcomes.proofs.finding.outcomes.Goals as goal

pub returns-in-Ok-clause-all : goal.returns-in-Ok-clause-all
returns-in-Ok-clause-all g c =
    let ns = c.in_ok-nodes.nodes.items in
    let os = c.in-Ok.found.items in
    let found : AreOutcomes ns os = subst (λ xs. AreOutcomes xs os) c.as_slice.ensures.value c.in-Ok.ensures in
    all_outcomes (layout_of c.args.state.now.layout)
    (ghost_state c.args.state.now) c.args.turns.now c.args.wanted.now ns os c.in_ok-nodes.ensures.layer found
