use Rattle.std.proofs.Common.{ap, refl, inr, length}
use Rattle.trace_text.specs.Oracles.{audited_lines}
use Rattle.trace_text.specs.Replay.{outcome_of}
use Rattle.trace_text.proofs.ReplayLemmas.{when_err}
use Rattle.trace_audit.specs.Audited.{told_lines, told_outcome}
use Rattle.trace_audit.proofs.auditing.LegalAuditPlayer.end.Goals as goal

pub returns-clause-front : goal.returns-clause-front
returns-clause-front g c =
    let found = c.in-Ok.found in
    let why = c.in-Ok-unlawful.why in
    when_err c.report_told.result _ _
    (λ front. inr (
      _,
      told_outcome why (outcome_of (length (audited_lines found))),
      (
        found,
        why,
        c.in-Ok.ensures.found,
        c.in-Ok-unlawful.ensures,
        ap (λ steps. told_lines steps found why) c.steps.ensures,
        refl,
      ),
      front,
    ))
    c.report_told.ensures.front
