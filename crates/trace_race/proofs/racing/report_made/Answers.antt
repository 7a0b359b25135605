use Rattle.std.proofs.Common.{◌∙◌, length, refl, subst, sym, ap}
use Rattle.std.specs.Io.KnownBytes.{Appends}
use Rattle.page_state.specs.LayoutView.{layout_of}
use Rattle.trace_text.specs.Played.{WritesFront}
use Rattle.trace_text.specs.Texts.{text_of_report}
use Rattle.trace_text.proofs.ReplayLemmas.{mapped, when_err}
use Rattle.trace_race.specs.Orders.{IsOrder}
use Rattle.trace_race.specs.Raced.{step_lines}
use Rattle.trace_race.proofs.Reports.{made_begins, made_ends, made_fails, made_halts}
use Rattle.trace_race.proofs.racing.report_made.Goals as goal

pub returns-in-Err-clause-begun : goal.returns-in-Err-clause-begun
returns-in-Err-clause-begun g c =
    made_fails c.args.ordered
    (layout_of c.args.state.layout) c.args.start c.args.steps.now c.args.made.replies.items _ _
    (subst
    (λ rs. WritesFront (step_lines c.args.steps.now rs) (g.K.Sink.contents c.args.sink.now)
    (g.K.Sink.contents c.report_steps.new.sink)) c.as_slice.ensures.value c.in-Err.ensures.front)

pub returns-in_default-compared_at_end-clause-begun : goal.returns-in_default-compared_at_end-clause-begun
returns-in_default-compared_at_end-clause-begun g c =
    made_halts c.args.ordered
    (layout_of c.args.state.layout) c.args.start c.args.steps.now c.args.made.replies.items _ _
    (subst
    (λ rs. Appends (g.K.Sink.contents c.args.sink.now) (g.K.Sink.contents c.report_steps.new.sink)
    (text_of_report (step_lines c.args.steps.now rs))) c.as_slice.ensures.value c.in_default.ensures.ok)

pub returns-clause-report : goal.returns-clause-report
returns-clause-report g c =
    let told =
    subst
    (λ rs. Appends (g.K.Sink.contents c.args.sink.now) (g.K.Sink.contents c.report_steps.new.sink)
    (text_of_report (step_lines c.args.steps.now rs))) c.as_slice.ensures.value c.in_default.ensures.ok in
    let order =
    subst
    (λ rs. IsOrder c.args.ordered (layout_of c.args.state.layout) c.args.start c.args.steps.now rs
    c.in-Ok.found.order.items) c.as_slice-2.ensures.value c.in-Ok.ensures.order in
    let told_order =
    subst
    (λ text. IsOrder c.args.ordered (layout_of c.args.state.layout) c.args.start c.args.steps.now
    c.args.made.replies.items text) (sym c.as_slice-4.ensures.value) order in
    mapped c.report_found.result _ _
    (λ outcome found. made_ends c.args.ordered
    (layout_of c.args.state.layout) c.args.start c.args.steps.now c.args.made.replies.items c.as_slice-3.result.now
    c.in-Ok.found.audited c.as_slice-4.result.now
    (length c.args.steps.now) _ (g.K.Sink.contents c.report_steps.new.sink) _ outcome
    (c.as_slice-3.ensures.value ∙ c.in-Ok.ensures.agree.0) c.in-Ok.ensures.agree.1 refl told_order told found)
    c.report_found.ensures.ok

pub returns-clause-begun : goal.returns-clause-begun
returns-clause-begun g c =
    let told =
    subst
    (λ rs. Appends (g.K.Sink.contents c.args.sink.now) (g.K.Sink.contents c.report_steps.new.sink)
    (text_of_report (step_lines c.args.steps.now rs))) c.as_slice.ensures.value c.in_default.ensures.ok in
    let order =
    subst
    (λ rs. IsOrder c.args.ordered (layout_of c.args.state.layout) c.args.start c.args.steps.now rs
    c.in-Ok.found.order.items) c.as_slice-2.ensures.value c.in-Ok.ensures.order in
    let told_order =
    subst
    (λ text. IsOrder c.args.ordered (layout_of c.args.state.layout) c.args.start c.args.steps.now
    c.args.made.replies.items text) (sym c.as_slice-4.ensures.value) order in
    when_err c.report_found.result _ _
    (λ front. made_begins c.args.ordered (layout_of c.args.state.layout) c.args.start c.args.steps.now
    c.args.made.replies.items c.as_slice-3.result.now c.in-Ok.found.audited c.as_slice-4.result.now
    (length c.args.steps.now) _ (g.K.Sink.contents c.report_steps.new.sink) _
    (c.as_slice-3.ensures.value ∙ c.in-Ok.ensures.agree.0) c.in-Ok.ensures.agree.1 refl told_order told front)
    c.report_found.ensures.front
