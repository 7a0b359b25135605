-- The audit in one that also tells of legality.
use Rattle.trace_audit.specs.declared.auditing.LegalAudit.{LegalAudit}
use Rattle.trace_audit.specs.Audited.{Audited}
use Rattle.trace_audit.specs.View.{audited_of}

abbrev pub seen_of : {A : Type 0} → LegalAudit A → Audited A
seen_of l = audited_of l.audit
