use Rattle.trace_audit.proofs.Replays.{audit_replays}
use Rattle.trace_audit.proofs.laws.audit_replays.Goals as goal

pub returns : goal.returns
returns g c = audit_replays g.row.A.Denot
