use Rattle.std.proofs.Common.{[], ◌∷◌}
use Rattle.trace_text.specs.declared.report.ReportLine.TheVariants as report
use Rattle.trace_text.specs.Oracles.{verdict_lines}
use Rattle.trace_text.proofs.Lined.{front_behind, front_first}
use Rattle.trace_text.proofs.ReplayLemmas.{on_err, when_err}
use Rattle.trace_text.proofs.trace.report_step.Goals as goal

pub returns-in_err-tell-clause-front : goal.returns-in_err-tell-clause-front
returns-in_err-tell-clause-front g c =
    on_err _
    (front_first _ _ (report.Response c.args.told ∷ []) (verdict_lines c.args.verdict) c.in_err-tell.ensures.front)

pub returns-clause-front : goal.returns-clause-front
returns-clause-front g c =
    when_err c.report_verdict.result _ _
    (λ front. front_behind _ (g.K.Sink.contents c.tell.new.sink) _ (report.Response c.args.told ∷ [])
    (verdict_lines c.args.verdict) c.in_ok-tell.ensures.ok front)
    c.report_verdict.ensures.front
