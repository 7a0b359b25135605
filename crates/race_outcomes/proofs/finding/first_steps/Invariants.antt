use Rattle.std.proofs.Common.{◌≡◌, take}
use Rattle.page_state.specs.LayoutView.{layout_of}
use Rattle.ghost_spec.specs.States.{ghost_state}
use Rattle.race_outcomes.specs.Orders.{replies_along}
use Rattle.race_outcomes.proofs.finding.first_steps.Given as goal

abbrev pub invariant-loop-i : goal.invariant-loop-i
invariant-loop-i l = record {
  layout : layout_of l.state.layout ≡ layout_of l.initial.state.layout;
  told : (l.replies.items, ghost_state l.state)
      ≡ replies_along (layout_of l.initial.state.layout) (ghost_state l.initial.state) (take l.i l.turns);
}
