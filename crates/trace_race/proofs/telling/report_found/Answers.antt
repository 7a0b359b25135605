use Rattle.std.proofs.Common.{rules, ◌≡◌, ◌∙◌, ◌+◌, ◌∷◌, ◌++◌, [], ap, length, map, List, ℕ, OnErr, subst}
use Rattle.trace_reader.proofs.KnownBytes.{appends_both}
use Rattle.trace_text.specs.declared.report.ReportLine.TheVariants as report
use Rattle.trace_text.specs.Oracles.{audited_lines}
use Rattle.trace_text.specs.Replay.{outcome_of}
use Rattle.trace_text.specs.Texts.{text_of_report}
use Rattle.trace_text.proofs.ReplayLemmas.{mapped, on_err, when_err}
use Rattle.trace_race.specs.Raced.{WritesTextFront}
use Rattle.trace_race.proofs.Reports.{text_behind, text_first}
use Rattle.trace_race.proofs.telling.report_found.Goals as goal

pub returns-in_err-report_judged-clause-front : goal.returns-in_err-report_judged-clause-front
returns-in_err-report_judged-clause-front g c =
    on_err _
    (text_first _ _ (text_of_report (map report.Judged c.args.judged.now)) _ c.in_err-report_judged.ensures.front)

pub returns-in_err-report_audited-clause-front : goal.returns-in_err-report_audited-clause-front
returns-in_err-report_audited-clause-front g c =
    on_err _
    (text_behind _ (g.K.Sink.contents c.report_judged.new.sink) _
    (text_of_report (map report.Judged c.args.judged.now)) _ c.in_ok-report_judged.ensures.ok
    (text_first _ _ (text_of_report (audited_lines c.args.audited)) _ c.in_err-report_audited.ensures.front))

pub returns-in_err-report_order-clause-front : goal.returns-in_err-report_order-clause-front
returns-in_err-report_order-clause-front g c =
    on_err _
    (text_behind _ (g.K.Sink.contents c.report_judged.new.sink) _
    (text_of_report (map report.Judged c.args.judged.now)) _ c.in_ok-report_judged.ensures.ok
    (text_behind _ (g.K.Sink.contents c.report_audited.new.sink) _
    (text_of_report (audited_lines c.args.audited)) _ c.in_ok-report_audited.ensures.ok
    (text_first _ _ c.args.order.now _ c.in_err-report_order.ensures.front)))

pub returns-clause-ok : goal.returns-clause-ok
returns-clause-ok g c =
    let count : c.from.result ≡ length (audited_lines c.args.audited) = search rules in
    let end : List ℕ =
    text_of_report (report.End c.args.steps (length c.args.judged.now + length (audited_lines c.args.audited)) ∷ []) in
    mapped c.report_end.result _ _
    (λ outcome told. (
      told.0 ∙ ap (λ n. outcome_of (length c.args.judged.now + n)) count,
      appends_both _ (g.K.Sink.contents c.report_judged.new.sink) _
          (text_of_report (map report.Judged c.args.judged.now))
          (text_of_report (audited_lines c.args.audited) ++ (c.args.order.now ++ end)) c.in_ok-report_judged.ensures.ok
          (appends_both _ (g.K.Sink.contents c.report_audited.new.sink) _
          (text_of_report (audited_lines c.args.audited)) (c.args.order.now ++ end) c.in_ok-report_audited.ensures.ok
          (appends_both _ (g.K.Sink.contents c.report_order.new.sink) _ c.args.order.now end
          c.in_ok-report_order.ensures.ok
          (rw count at told.1))),
    ))
    c.report_end.ensures.ok

pub returns-clause-front : goal.returns-clause-front
returns-clause-front g c =
    let count : c.from.result ≡ length (audited_lines c.args.audited) = search rules in
    let end : List ℕ =
    text_of_report (report.End c.args.steps (length c.args.judged.now + length (audited_lines c.args.audited)) ∷ []) in
    let told =
    subst
    (λ n. OnErr c.report_end.result
    (WritesTextFront (text_of_report (report.End c.args.steps (length c.args.judged.now + n) ∷ []))
    (g.K.Sink.contents c.report_order.new.sink) (g.K.Sink.contents c.report_end.new.sink))) count
    c.report_end.ensures.front in
    when_err c.report_end.result _ _
    (λ front. text_behind _ (g.K.Sink.contents c.report_judged.new.sink) _
    (text_of_report (map report.Judged c.args.judged.now))
    (text_of_report (audited_lines c.args.audited) ++ (c.args.order.now ++ end)) c.in_ok-report_judged.ensures.ok
    (text_behind _ (g.K.Sink.contents c.report_audited.new.sink) _
    (text_of_report (audited_lines c.args.audited)) (c.args.order.now ++ end) c.in_ok-report_audited.ensures.ok
    (text_behind _ (g.K.Sink.contents c.report_order.new.sink) _ c.args.order.now end
    c.in_ok-report_order.ensures.ok front)))
    told
