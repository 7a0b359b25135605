use Rattle.trace_check.proofs.Replayed.{told_replayed}
use Rattle.trace_check.proofs.laws.reported_is_replayed.Goals as goal

pub returns : goal.returns
returns c = told_replayed
