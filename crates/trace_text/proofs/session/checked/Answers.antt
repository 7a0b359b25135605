use Rattle.std.proofs.Common.{refl, sym, subst, ◌∙◌}
use Rattle.reference_model.specs.model.State.{Reference}
use Rattle.ghost_spec.specs.Kept.{HasNextGeneration}
use Rattle.ghost_oracle.proofs.LowParts.{has_next}
use Rattle.hypercalls.specs.Stands.{state_of}
use Rattle.hypercalls.specs.Whole.{call_of}
use Rattle.trace_text.specs.View.{machine_of}
use Rattle.trace_text.proofs.Failing.{failed}
use Rattle.trace_text.proofs.session.checked.Goals as goal

pub check-verdict-requires-clause-generation : goal.check-verdict-requires-clause-generation
check-verdict-requires-clause-generation g c =
    subst (λ (s : Reference). HasNextGeneration (s.contents.cpu c.args.cpu).ticket c.args.step)
    (sym c.in_ok-before.ensures.state)
    (has_next c.args.world.now.parts c.args.world.now.history c.args.cpu c.args.step)

pub returns-clause-given : goal.returns-clause-given
returns-clause-given g c =
    c.in-Ok-verdict.ensures.told (machine_of c.args.world.now)
    (call_of c.args.world.now.parts c.args.cpu c.args.step c.step-reply.result)
    (state_of c.step-reply.new.self.parts) (record {
      layout = c.in_ok-before.ensures.layout;
      before_is = c.in_ok-before.ensures.state;
      cpu_is = refl;
      step_is = refl;
      reply_is = refl;
      made = c.step-reply.ensures.step.steps;
      after_is = c.in-Ok.ensures.compared.state;
      walked_is = c.in-Ok.ensures.same ∙ c.in-Ok.ensures.compared.state;
    })

pub returns-clause-step : goal.returns-clause-step
returns-clause-step g c = c.step-reply.ensures.step

pub returns-clause-after : goal.returns-clause-after
returns-clause-after g c = record { state = c.in-Ok.ensures.compared.state; layout = c.in-Ok.ensures.compared.layout }

pub returns-in_err-before-clause-step : goal.returns-in_err-before-clause-step
returns-in_err-before-clause-step g c = failed _ _ c.from_residual.result c.from_residual.ensures.1

pub returns-in_err-before-clause-given : goal.returns-in_err-before-clause-given
returns-in_err-before-clause-given g c = failed _ _ c.from_residual.result c.from_residual.ensures.1

pub returns-in_err-before-clause-after : goal.returns-in_err-before-clause-after
returns-in_err-before-clause-after g c = failed _ _ c.from_residual.result c.from_residual.ensures.1

pub returns-in_default-clause-step : goal.returns-in_default-clause-step
returns-in_default-clause-step g c = tt

pub returns-in_default-clause-given : goal.returns-in_default-clause-given
returns-in_default-clause-given g c = tt

pub returns-in_default-clause-after : goal.returns-in_default-clause-after
returns-in_default-clause-after g c = tt

pub returns-in_default-verdict-clause-step : goal.returns-in_default-verdict-clause-step
returns-in_default-verdict-clause-step g c = tt

pub returns-in_default-verdict-clause-given : goal.returns-in_default-verdict-clause-given
returns-in_default-verdict-clause-given g c = tt

pub returns-in_default-verdict-clause-after : goal.returns-in_default-verdict-clause-after
returns-in_default-verdict-clause-after g c = tt
