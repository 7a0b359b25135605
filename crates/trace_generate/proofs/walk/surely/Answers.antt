use Rattle.std.proofs.Common.{◌<◌, subst}
use Rattle.page_state.specs.LayoutFaults.{IsAccepted}
use Rattle.page_state.specs.LayoutView.{layout_of}
use Rattle.ghost_spec.specs.States.{ghost_state}
use Rattle.trace_generate.proofs.Walked.{sure_call, sure_generation}
use Rattle.trace_generate.proofs.walk.surely.Goals as goal

pub returns-clause-call : goal.returns-clause-call
returns-clause-call c =
    let accepted = subst (λ g. IsAccepted g.layout.map) c.lists.ensures.value c.regions.ensures.accepted in
    let cpu = subst (λ g. c.below-cpu.result < g.layout.config.cpus) c.lists.ensures.value c.below-cpu.ensures.below in
    sure_call (layout_of c.args.state.now.layout)
    (ghost_state c.args.state.now) c.below-cpu.result c.args.hostile c.sure_step-step.result accepted cpu
    c.sure_step-step.ensures

pub predict-requires-clause-generation : goal.predict-requires-clause-generation
predict-requires-clause-generation c = sure_generation c.args.hostile c.sure_step-step.result _ c.sure_step-step.ensures
