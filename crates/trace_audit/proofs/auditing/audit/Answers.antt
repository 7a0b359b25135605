use Rattle.std.proofs.Common.{Bool, IfOk, OnErr, subst, sym}
use Rattle.trace_audit.specs.Audited.{IsAuditBegun, IsAuditReported}
use Rattle.trace_audit.proofs.auditing.audit.Goals as goal

pub returns-then-legal-clause-report : goal.returns-then-legal-clause-report
returns-then-legal-clause-report g c =
    subst
    (λ (b : Bool). IfOk c.audit_told.result
    (IsAuditReported g.row.A.Denot b (g.S.Source.remaining c.args.source.now) (g.K.Sink.contents c.args.sink.now)
    (g.K.Sink.contents c.audit_told.new.sink))) (sym c.if-legal.true) c.audit_told.ensures.report

pub returns-then-legal-clause-begun : goal.returns-then-legal-clause-begun
returns-then-legal-clause-begun g c =
    subst
    (λ (b : Bool). OnErr c.audit_told.result
    (IsAuditBegun g.row.A.Denot b (g.S.Source.remaining c.args.source.now) (g.K.Sink.contents c.args.sink.now)
    (g.K.Sink.contents c.audit_told.new.sink))) (sym c.if-legal.true) c.audit_told.ensures.begun

pub returns-else-legal-clause-report : goal.returns-else-legal-clause-report
returns-else-legal-clause-report g c =
    subst
    (λ (b : Bool). IfOk c.audit_found.result
    (IsAuditReported g.row.A.Denot b (g.S.Source.remaining c.args.source.now) (g.K.Sink.contents c.args.sink.now)
    (g.K.Sink.contents c.audit_found.new.sink))) (sym c.if-legal.false) c.audit_found.ensures.report

pub returns-else-legal-clause-begun : goal.returns-else-legal-clause-begun
returns-else-legal-clause-begun g c =
    subst
    (λ (b : Bool). OnErr c.audit_found.result
    (IsAuditBegun g.row.A.Denot b (g.S.Source.remaining c.args.source.now) (g.K.Sink.contents c.args.sink.now)
    (g.K.Sink.contents c.audit_found.new.sink))) (sym c.if-legal.false) c.audit_found.ensures.begun
