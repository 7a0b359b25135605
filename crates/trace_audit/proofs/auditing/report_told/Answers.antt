use Rattle.std.proofs.Common.{rules, ◌≡◌, [], ◌∷◌, ◌++◌, length, subst, IfOk, OnErr}
use Rattle.trace_text.specs.declared.report.ReportLine.TheVariants as report
use Rattle.trace_text.specs.Oracles.{audited_lines, illegal_lines}
use Rattle.trace_text.specs.Played.{EndsWith, WritesFront}
use Rattle.trace_text.specs.Replay.{outcome_of}
use Rattle.trace_text.proofs.Lined.{front_behind, front_first}
use Rattle.trace_text.proofs.ReplayLemmas.{appends_lines, mapped, on_err, when_err}
use Rattle.trace_audit.specs.Audited.{told_outcome}
use Rattle.trace_audit.proofs.auditing.report_told.Goals as goal

pub returns-in_err-report_audited-clause-front : goal.returns-in_err-report_audited-clause-front
returns-in_err-report_audited-clause-front g c =
    on_err _
    (front_first _ _ (audited_lines c.args.found)
    (illegal_lines c.args.why ++ report.End c.args.steps (length (audited_lines c.args.found)) ∷ [])
    c.in_err-report_audited.ensures.front)

pub returns-clause-ok : goal.returns-clause-ok
returns-clause-ok g c =
    let count : c.from.result ≡ length (audited_lines c.args.found) = search rules in
    let told =
    subst
    (λ n. IfOk c.report_why.result
    (EndsWith (illegal_lines c.args.why ++ report.End c.args.steps n ∷ []) (told_outcome c.args.why (outcome_of n))
    (g.K.Sink.contents c.report_audited.new.sink)
    (g.K.Sink.contents c.report_why.new.sink))) count c.report_why.ensures.ok in
    mapped c.report_why.result _ _
    (λ outcome ends. (
      ends.0,
      appends_lines _ (g.K.Sink.contents c.report_audited.new.sink) _ (audited_lines c.args.found)
          (illegal_lines c.args.why ++ report.End c.args.steps (length (audited_lines c.args.found)) ∷ [])
          c.in_ok-report_audited.ensures.ok ends.1,
    ))
    told

pub returns-clause-front : goal.returns-clause-front
returns-clause-front g c =
    let count : c.from.result ≡ length (audited_lines c.args.found) = search rules in
    let told =
    subst
    (λ n. OnErr c.report_why.result
    (WritesFront (illegal_lines c.args.why ++ report.End c.args.steps n ∷ [])
    (g.K.Sink.contents c.report_audited.new.sink)
    (g.K.Sink.contents c.report_why.new.sink))) count c.report_why.ensures.front in
    when_err c.report_why.result _ _
    (λ front. front_behind _ (g.K.Sink.contents c.report_audited.new.sink) _ (audited_lines c.args.found)
    (illegal_lines c.args.why ++ report.End c.args.steps (length (audited_lines c.args.found)) ∷ [])
    c.in_ok-report_audited.ensures.ok front)
    told
