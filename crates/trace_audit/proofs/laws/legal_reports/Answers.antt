use Rattle.trace_audit.proofs.Told.{legal_reports}
use Rattle.trace_audit.proofs.laws.legal_reports.Goals as goal

pub returns : goal.returns
returns g c = legal_reports {A = g.row.A.Denot}
