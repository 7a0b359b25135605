use Rattle.std.proofs.Common.{rules, ◌≡◌, [], ◌∷◌, length, OnErr, subst}
use Rattle.trace_text.specs.declared.report.ReportLine.TheVariants as report
use Rattle.trace_text.specs.Oracles.{audited_lines}
use Rattle.trace_text.specs.Played.{WritesFront}
use Rattle.trace_text.proofs.Lined.{front_behind, front_first}
use Rattle.trace_text.proofs.ReplayLemmas.{on_err, when_err}
use Rattle.trace_audit.proofs.auditing.report_found.Goals as goal

pub returns-in_err-report_audited-clause-front : goal.returns-in_err-report_audited-clause-front
returns-in_err-report_audited-clause-front g c =
    on_err _
    (front_first _ _ (audited_lines c.args.found)
    (report.End c.args.steps (length (audited_lines c.args.found)) ∷ []) c.in_err-report_audited.ensures.front)

pub returns-clause-front : goal.returns-clause-front
returns-clause-front g c =
    let count : c.from.result ≡ length (audited_lines c.args.found) = search rules in
    let told =
    subst
    (λ n. OnErr c.report_end.result
    (WritesFront (report.End c.args.steps n ∷ []) (g.K.Sink.contents c.report_audited.new.sink)
    (g.K.Sink.contents c.report_end.new.sink))) count c.report_end.ensures.front in
    when_err c.report_end.result _ _
    (λ front. front_behind _ (g.K.Sink.contents c.report_audited.new.sink) _ (audited_lines c.args.found)
    (report.End c.args.steps (length (audited_lines c.args.found)) ∷ []) c.in_ok-report_audited.ensures.ok front)
    told
