use Rattle.std.proofs.Common.{rules, ◌∙◌, ap, subst}
use Rattle.c_states.specs.Layouts.{layout_from_c}
use Rattle.c_words.specs.Steps.{step_from_c}
use Rattle.ghost_spec.specs.States.{ghost_state}
use Rattle.trace_generate.specs.Suggested.{IsSuggested}
use Rattle.c_calls.proofs.StepsSaid.{steps_said}
use Rattle.c_calls.proofs.suggest.suggested_call.Goals as goal

pub returns-in-Ok-suggested-clause-call : goal.returns-in-Ok-suggested-clause-call
returns-in-Ok-suggested-clause-call c =
    let l = layout_from_c c.args.layout.now c.args.layout.now.regions.now in
    let call = c.in-Ok-suggested.call in
    let on_layout =
    subst
    (λ m. IsSuggested m (ghost_state c.in-Ok.state) c.args.random c.args.hostile call) c.in-Ok.ensures.layout
    c.in-Ok-suggested.ensures in
    record {
      step = call.step;
      step_is = ap step_from_c c.step_to_c.ensures ∙ steps_said call.step;
      layout = c.in-Ok.ensures.ready;
      taken = c.in-Ok.ensures.taken;
      percent = search rules;
      call = subst (λ s. IsSuggested l s c.args.random c.args.hostile call) c.in-Ok.ensures.state on_layout;
    }
