use Rattle.std.proofs.Common.{arith}
use Rattle.page_state.specs.LayoutView.{layout_of}
use Rattle.ghost_spec.specs.States.{ghost_state}
use Rattle.trace_outcomes.proofs.Generated.{steps_refused}
use Rattle.trace_outcomes.proofs.making.steps_made.Goals as goal

pub refused-requires : goal.refused-requires
refused-requires c =
    steps_refused (layout_of c.args.state.layout) (ghost_state c.args.state) c.args.turns.now 1 c.in-Err.fault
    (omega arith) (omega (arith, c.requires.few)) c.requires.low c.in-Err.ensures.fault
