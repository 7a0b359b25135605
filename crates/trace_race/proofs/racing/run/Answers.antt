use Rattle.std.proofs.Common.{◌≡◌, ◌∙◌, ℕ, IfOk, List, OnErr, ap, length, subst, sym}
use Rattle.page_state.specs.declared.layout.Config.{Config}
use Rattle.page_state.specs.Layouts.{Layout}
use Rattle.trace_lines.specs.Settings.{config_of}
use Rattle.trace_text.proofs.ReplayLemmas.{mapped, when_err}
use Rattle.trace_race.specs.Booted.{machine_in}
use Rattle.trace_race.specs.declared.course.Asked.{Asked}
use Rattle.trace_race.specs.Courses.{Asking, course_in}
use Rattle.trace_race.specs.Made.{OneHistory}
use Rattle.trace_race.specs.Told.{StepsBegin, StepsEnd}
use Rattle.trace_race.proofs.Reports.{engine_err, engine_ok, run_begins, run_ends, run_fails, run_halts}
use Rattle.trace_race.proofs.racing.run.Goals as goal

pub make-requires-clause-booted : goal.make-requires-clause-booted
make-requires-clause-booted g c κs within =
    (c.requires.booted.0, config_of (course_in c.args.course.now).told, c.requires.booted.1.world)

pub make-requires-clause-cpus : goal.make-requires-clause-cpus
make-requires-clause-cpus g c κs within =
    ap (λ (k : Config). k.cpus) c.config-cpus.ensures
    ∙ sym (ap (λ (l : Layout). l.config.cpus) c.requires.booted.1.world.layout)

pub report_made-requires-clause-made : goal.report_made-requires-clause-made
report_made-requires-clause-made g c = let made = rw c.in-Ok-Some.field-0-is at c.in-Ok-Some.ensures in made.1

pub report_made-requires-clause-layout : goal.report_made-requires-clause-layout
report_made-requires-clause-layout g c = let made = rw c.in-Ok-Some.field-0-is at c.in-Ok-Some.ensures in
    made.0 ∙ c.requires.booted.1.layout

pub returns-in-Err-clause-begun : goal.returns-in-Err-clause-begun
returns-in-Err-clause-begun g c =
    run_fails c.args.ordered (machine_in c.args.booted.state)
    (course_in c.args.course.now) c.args.booted.line _ _ c.requires.booted.1.line c.in-Err.ensures.front

pub returns-in-Ok-None-clause-begun : goal.returns-in-Ok-None-clause-begun
returns-in-Ok-None-clause-begun g c =
    run_halts c.args.ordered (machine_in c.args.booted.state)
    (course_in c.args.course.now) c.args.booted.line _ _ c.requires.booted.1.line c.in_default.ensures.ok

pub returns-in-Err-make-clause-begun : goal.returns-in-Err-make-clause-begun
returns-in-Err-make-clause-begun g c =
    run_halts c.args.ordered (machine_in c.args.booted.state)
    (course_in c.args.course.now) c.args.booted.line _ _ c.requires.booted.1.line c.in_default.ensures.ok

pub returns-clause-report : goal.returns-clause-report
returns-clause-report g c =
    let m = machine_in c.args.booted.state in
    let a : Asking = course_in c.args.course.now in
    let made = rw c.in-Ok-Some.field-0-is at c.in-Ok-Some.ensures in
    let steps : c.as_slice-steps.result.now ≡ a.steps = c.as_slice-steps.ensures.value in
    let count : length c.in-Ok-Some.made.replies.items ≡ length a.steps = made.1.count ∙ ap length steps in
    let report =
    subst
    (λ (z : ℕ × List Asked). IfOk c.report_made.result
    (StepsEnd c.args.ordered m.layout z.0 z.1 c.in-Ok-Some.made.replies.items (g.K.Sink.contents c.tell.new.sink)
    (g.K.Sink.contents c.report_made.new.sink)))
    (λ i. (c.in_order-start.ensures i, steps i)) c.report_made.ensures.report in
    engine_ok _ _ _ c.engine.ensures
    (mapped c.report_made.result _ _
    (λ outcome ends. run_ends c.args.ordered m a c.in-Ok-Some.made.replies.items c.args.booted.line _
    (g.K.Sink.contents c.tell.new.sink) _ outcome c.requires.booted.1.line count c.in_default.ensures.ok
    ends) report)

pub returns-clause-begun : goal.returns-clause-begun
returns-clause-begun g c =
    let m = machine_in c.args.booted.state in
    let a : Asking = course_in c.args.course.now in
    let made = rw c.in-Ok-Some.field-0-is at c.in-Ok-Some.ensures in
    let steps : c.as_slice-steps.result.now ≡ a.steps = c.as_slice-steps.ensures.value in
    let count : length c.in-Ok-Some.made.replies.items ≡ length a.steps = made.1.count ∙ ap length steps in
    let one =
    subst (λ (z : ℕ × List Asked). OneHistory m.layout z.0 z.1 c.in-Ok-Some.made.replies.items)
    (λ i. (c.in_order-start.ensures i, steps i)) c.report_made.ensures.history in
    let front =
    subst
    (λ (z : ℕ × List Asked). OnErr c.report_made.result
    (StepsBegin c.args.ordered m.layout z.0 z.1 c.in-Ok-Some.made.replies.items (g.K.Sink.contents c.tell.new.sink)
    (g.K.Sink.contents c.report_made.new.sink)))
    (λ i. (c.in_order-start.ensures i, steps i)) c.report_made.ensures.begun in
    engine_err _ _ _ c.engine.ensures
    (when_err c.report_made.result _ _
    (λ begins. run_begins c.args.ordered m a c.in-Ok-Some.made.replies.items c.args.booted.line _
    (g.K.Sink.contents c.tell.new.sink) _ c.requires.booted.1.line count one c.in_default.ensures.ok
    begins) front)
