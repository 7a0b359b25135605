use Rattle.std.proofs.Common.{Bool, IfErr, IfOk, IfSome, subst, sym}
use Rattle.trace_audit.specs.Audited.{IsAuditBegun, IsAuditReported}
use Rattle.trace_audit.proofs.buffered.audit_buffered.Goals as goal

pub returns-then-legal-clause-report : goal.returns-then-legal-clause-report
returns-then-legal-clause-report g c =
    subst
    (λ (b : Bool). IfOk c.told_buffered.result
    (λ r. IsAuditReported g.row.A.Denot b (g.R.Read.remaining c.args.reader) (g.W.Write.contents c.args.writer)
    (g.W.Write.contents r.1) r.0)) (sym c.if-legal.true) c.told_buffered.ensures.report

pub returns-then-legal-clause-begun : goal.returns-then-legal-clause-begun
returns-then-legal-clause-begun g c =
    subst
    (λ (b : Bool). IfErr c.told_buffered.result
    (λ s. IfSome s.writer
    (λ w. IsAuditBegun g.row.A.Denot b (g.R.Read.remaining c.args.reader) (g.W.Write.contents c.args.writer)
    (g.W.Write.contents w)))) (sym c.if-legal.true) c.told_buffered.ensures.begun

pub returns-else-legal-clause-report : goal.returns-else-legal-clause-report
returns-else-legal-clause-report g c =
    subst
    (λ (b : Bool). IfOk c.found_buffered.result
    (λ r. IsAuditReported g.row.A.Denot b (g.R.Read.remaining c.args.reader) (g.W.Write.contents c.args.writer)
    (g.W.Write.contents r.1) r.0)) (sym c.if-legal.false) c.found_buffered.ensures.report

pub returns-else-legal-clause-begun : goal.returns-else-legal-clause-begun
returns-else-legal-clause-begun g c =
    subst
    (λ (b : Bool). IfErr c.found_buffered.result
    (λ s. IfSome s.writer
    (λ w. IsAuditBegun g.row.A.Denot b (g.R.Read.remaining c.args.reader) (g.W.Write.contents c.args.writer)
    (g.W.Write.contents w)))) (sym c.if-legal.false) c.found_buffered.ensures.begun
