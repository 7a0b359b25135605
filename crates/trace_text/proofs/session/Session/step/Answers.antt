use Rattle.std.proofs.Common.{rules, refl, ap, sym, subst, arith, ◌+◌, ◌∙◌, Some, IfSome, inl, inr}
use Rattle.hypercalls.specs.Stands.{parts_layout, state_of}
use Rattle.hypercalls.specs.Whole.{call_of}
use Rattle.trace_text.specs.Ready.{IsStateAt}
use Rattle.trace_text.specs.Session.{MakesStep}
use Rattle.trace_text.specs.View.{standing_of}
use Rattle.trace_text.proofs.Standing.{on_machine}
use Rattle.trace_text.proofs.session.Session.step.Goals as goal

pub returns-clause-done : goal.returns-clause-done
returns-clause-done g c =
    let old = standing_of c.args.self.now in
    let before = c.in-Some.world.now in
    let after = c.step_made.new.world in
    on_machine
    (MakesStep g.O.Oracle.gives c.args.number c.args.cpu c.args.step) _ c.args.self.now.world before _ _ refl
    (search rules) (
      λ over. absurd (omega arith),
      λ in_range. inr (record {
        call = call_of before.parts c.args.cpu c.args.step c.in-Ok.made.reply;
        next = state_of after.parts;
        verdict = c.in-Ok.made.verdict;
        cpu_is = refl;
        step_is = refl;
        made = c.in-Ok.ensures.step.steps;
        given = c.in-Ok.ensures.given;
        lines = refl;
        standing =
            ap
            (λ l. record old {
              machine = Some (record { layout = l; state = state_of after.parts });
              steps = old.steps + 1;
              disagreements = old.disagreements + c.count.result;
            }) c.in-Ok.ensures.step.layout
            ∙ ap
            (λ n. record old {
              machine = Some (record { layout = (parts_layout before.parts); state = state_of after.parts });
              steps = old.steps + 1;
              disagreements = old.disagreements + n;
            }) c.count.ensures.count;
      }),
    )

pub returns-in_default-clause-ready : goal.returns-in_default-clause-ready
returns-in_default-clause-ready g c = c.requires.ready

pub step_made-requires-clause-cpu : goal.step_made-requires-clause-cpu
step_made-requires-clause-cpu g c = omega arith

pub returns-clause-ready : goal.returns-clause-ready
returns-clause-ready g c = record {
  remembered =
      subst (λ state. IfSome state (IsStateAt c.step_made.new.world)) (sym c.replace.ensures.after)
      c.in-Ok.ensures.after;
  few = omega (arith, c.requires.ready.few, c.count.ensures.few);
}

pub returns-in_default-step_made-clause-done : goal.returns-in_default-step_made-clause-done
returns-in_default-step_made-clause-done g c =
    on_machine
    (MakesStep g.O.Oracle.gives c.args.number c.args.cpu c.args.step) _ c.args.self.now.world c.in-Some.world.now _
    _ refl
    (search rules) (λ over. absurd (omega arith), λ in_range. inl refl)
