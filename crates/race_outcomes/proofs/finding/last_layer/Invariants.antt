use Rattle.page_state.specs.LayoutView.{layout_of}
use Rattle.ghost_spec.specs.States.{ghost_state}
use Rattle.race_outcomes.specs.Layers.{IsLayer}
use Rattle.race_outcomes.proofs.finding.last_layer.Given as goal

abbrev pub invariant-loop-made : goal.invariant-loop-made
invariant-loop-made g l =
    IsLayer l.turns l.wanted (layout_of l.fn.state.layout) (ghost_state l.fn.state) l.made l.nodes.items
