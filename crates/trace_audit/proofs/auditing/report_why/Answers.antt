use Rattle.std.proofs.Common.{◌∙◌, [], ◌∷◌, ap}
use Rattle.trace_text.specs.declared.report.ReportLine.TheVariants as report
use Rattle.trace_text.specs.Oracles.{illegal_lines}
use Rattle.trace_text.proofs.Lined.{front_behind, front_first}
use Rattle.trace_text.proofs.ReplayLemmas.{appends_lines, on_err}
use Rattle.trace_audit.specs.Audited.{told_outcome}
use Rattle.trace_audit.proofs.auditing.report_why.Goals as goal

pub returns-in_err-report_illegal-clause-front : goal.returns-in_err-report_illegal-clause-front
returns-in_err-report_illegal-clause-front g c =
    on_err _
    (front_first _ _ (illegal_lines c.args.why) (report.End c.args.steps c.args.differences ∷ [])
    c.in_err-report_illegal.ensures.front)

pub returns-in_err-outcome-clause-front : goal.returns-in_err-outcome-clause-front
returns-in_err-outcome-clause-front g c =
    on_err _
    (front_behind _ (g.K.Sink.contents c.report_illegal.new.sink) _ (illegal_lines c.args.why)
    (report.End c.args.steps c.args.differences ∷ []) c.in_ok-report_illegal.ensures.ok
    c.in_err-outcome.ensures.front)

pub returns-clause-ok : goal.returns-clause-ok
returns-clause-ok g c = (
  c.with_why.ensures ∙ ap (told_outcome c.args.why) c.in_ok-outcome.ensures.ok.0,
  appends_lines _ (g.K.Sink.contents c.report_illegal.new.sink) _ (illegal_lines c.args.why)
      (report.End c.args.steps c.args.differences ∷ []) c.in_ok-report_illegal.ensures.ok
      c.in_ok-outcome.ensures.ok.1,
)
