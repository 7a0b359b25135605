use Rattle.trace_text.specs.Oracles.{audited_lines, judged_lines}
use Rattle.trace_text.proofs.Lined.{front_behind, front_first}
use Rattle.trace_text.proofs.ReplayLemmas.{appends_lines, on_err, when_err, when_ok}
use Rattle.trace_text.proofs.trace.report_verdict.Goals as goal

pub returns-in_err-report_judged-clause-front : goal.returns-in_err-report_judged-clause-front
returns-in_err-report_judged-clause-front g c =
    on_err _
    (front_first _ _ (judged_lines c.args.verdict.judged)
    (audited_lines c.args.verdict.audited) c.in_err-report_judged.ensures.front)

pub returns-clause-front : goal.returns-clause-front
returns-clause-front g c =
    when_err c.report_audited.result _ _
    (λ front. front_behind _ (g.K.Sink.contents c.report_judged.new.sink) _ (judged_lines c.args.verdict.judged)
    (audited_lines c.args.verdict.audited) c.in_ok-report_judged.ensures.ok front)
    c.report_audited.ensures.front

pub returns-clause-ok : goal.returns-clause-ok
returns-clause-ok g c =
    when_ok c.report_audited.result _ _
    (λ rest. appends_lines (g.K.Sink.contents c.args.sink.now) (g.K.Sink.contents c.report_judged.new.sink) _
    (judged_lines c.args.verdict.judged) (audited_lines c.args.verdict.audited) c.in_ok-report_judged.ensures.ok rest)
    c.report_audited.ensures.ok
