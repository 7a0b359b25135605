use Rattle.std.proofs.Common.{ap, refl, [], ◌∷◌, ◌++◌, length, inr}
use Rattle.trace_text.specs.declared.report.ReportLine.TheVariants as report
use Rattle.trace_text.specs.Oracles.{audited_lines}
use Rattle.trace_text.specs.Replay.{outcome_of}
use Rattle.trace_text.proofs.ReplayLemmas.{when_err}
use Rattle.trace_audit.proofs.auditing.AuditPlayer.end.Goals as goal

pub returns-clause-front : goal.returns-clause-front
returns-clause-front g c =
    let lines = audited_lines c.in-Ok.found in
    when_err c.report_found.result _ _
    (λ front. inr (
      _,
      outcome_of (length lines),
      (
        c.in-Ok.found,
        c.in-Ok.ensures.found,
        ap (λ steps. lines ++ report.End steps (length lines) ∷ []) c.steps.ensures,
        refl,
      ),
      front,
    ))
    c.report_found.ensures.front
