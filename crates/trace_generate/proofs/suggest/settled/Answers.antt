use Rattle.std.proofs.Common.{◌<◌, ◌∙◌, ap, subst}
use Rattle.std.specs.Prelude.{if◌then◌else◌}
use Rattle.page_state.specs.LayoutFaults.{IsAccepted}
use Rattle.page_state.specs.LayoutView.{layout_of}
use Rattle.call_table.specs.declared.step.Step.TheVariants.{ShareHyp, OwnerOf}
use Rattle.ghost_spec.specs.States.{ghost_state}
use Rattle.trace_generate.proofs.Settled.{settled_call}
use Rattle.trace_generate.proofs.suggest.settled.Goals as goal

pub returns : goal.returns
returns c =
    let accepted = subst (λ g. IsAccepted g.layout.map) c.lists.ensures.value c.regions.ensures.accepted in
    let cpu = subst (λ g. c.below-cpu.result < g.layout.config.cpus) c.lists.ensures.value c.below-cpu.ensures.below in
    let carve = c.carve.ensures.value ∙ ap (λ g. g.layout.map.carve) c.lists.ensures.value in
    let step =
    c.settled_step-step.ensures
    ∙ ap (λ p. if c.args.hostile then ShareHyp 0xffff_ffff_ffff_ffff else OwnerOf p.first.0) carve in
    settled_call (layout_of c.args.state.now.layout)
    (ghost_state c.args.state.now) c.below-cpu.result c.args.hostile c.settled_step-step.result accepted
    c.requires.rooms cpu step
