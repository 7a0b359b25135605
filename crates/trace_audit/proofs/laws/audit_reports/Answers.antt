use Rattle.trace_audit.proofs.Poking.{audit_reports}
use Rattle.trace_audit.proofs.laws.audit_reports.Goals as goal

pub returns : goal.returns
returns g c = audit_reports {A = g.row.A.Denot}
