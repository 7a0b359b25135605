use Rattle.trace_cases.proofs.Reported.{audit_reported}
use Rattle.trace_cases.proofs.laws.audit_is_reported.Goals as goal

pub returns : goal.returns
returns g c = audit_reported {A = g.row.A.Denot}
