use Rattle.std.proofs.Common.{◌≡◌, ℕ, ap, sym, subst, ◌∙◌}
use Rattle.std.proofs.lemmas.Result.{IfOk-weaker}
use Rattle.call_table.specs.declared.reply.Reply.{Reply}
use Rattle.call_table.specs.declared.step.Step.{Step}
use Rattle.page_state.specs.LayoutView.{layout_of}
use Rattle.page_state.specs.Layouts.{Layout}
use Rattle.reference_model.specs.model.State.{Reference}
use Rattle.reference_model.specs.model.Step.{predict_step}
use Rattle.ghost_spec.specs.Kept.{HasNextGeneration}
use Rattle.ghost_spec.specs.States.{ghost_state}
use Rattle.ghost_spec.proofs.state.predict.Goals as goal

-- what is predicted of a state, by what is predicted of the same one
same_told : (l m : Layout) (s t : Reference) (cpu : ℕ) (step : Step) (told : Reply × Reference)
    → l ≡ m
    → s ≡ t
    → told ≡ predict_step l s cpu step
    → told ≡ predict_step m t cpu step
same_told l m s t cpu step told layout state h =
    h ∙ ap (λ (k : Layout). predict_step k s cpu step) layout ∙ ap (λ (r : Reference). predict_step m r cpu step) state

pub predict_last-requires-clause-generation : goal.predict_last-requires-clause-generation
predict_last-requires-clause-generation c =
    subst (λ (s : Reference). HasNextGeneration (s.contents.cpu c.args.cpu).ticket c.args.step)
    (sym c.in_ok-after.ensures.state) c.requires.generation

pub returns-clause-predicted : goal.returns-clause-predicted
returns-clause-predicted c =
    let a = c.in_ok-after.after in
    let s = c.args.state.now in
    IfOk-weaker c.predict_last.result
    (λ r. (r.0, ghost_state r.1) ≡ predict_step (layout_of a.layout) (ghost_state a) c.args.cpu c.args.step)
    (λ r. (r.0, ghost_state r.1) ≡ predict_step (layout_of s.layout) (ghost_state s) c.args.cpu c.args.step)
    (λ r h. same_told (layout_of a.layout) (layout_of s.layout) (ghost_state a) (ghost_state s) c.args.cpu c.args.step
    (r.0, ghost_state r.1) c.in_ok-after.ensures.layout c.in_ok-after.ensures.state
    h) c.predict_last.ensures.predicted

pub returns-clause-layout : goal.returns-clause-layout
returns-clause-layout c =
    let a = c.in_ok-after.after in
    let s = c.args.state.now in
    IfOk-weaker c.predict_last.result (λ r. r.1.layout ≡ a.layout) (λ r. layout_of r.1.layout ≡ layout_of s.layout)
    (λ r h. ap layout_of h ∙ c.in_ok-after.ensures.layout) c.predict_last.ensures.layout
