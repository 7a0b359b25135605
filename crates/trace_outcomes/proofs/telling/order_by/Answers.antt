use Rattle.std.proofs.Common.{subst, sym}
use Rattle.page_state.specs.LayoutView.{layout_of}
use Rattle.reference_model.specs.model.State.{Reference}
use Rattle.trace_race.specs.Judged.{HasGenerationsTo}
use Rattle.trace_race.proofs.Generations.{boot_to}
use Rattle.trace_outcomes.proofs.telling.order_by.Goals as goal

pub order_from-requires-clause-low : goal.order_from-requires-clause-low
order_from-requires-clause-low g c =
    subst (λ (s : Reference). HasGenerationsTo 1 s.contents) (sym c.in-Ok.ensures.state_is)
    (boot_to (layout_of c.in-Ok.state.layout))
