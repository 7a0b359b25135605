use Rattle.trace_watches.proofs.Held.{plain_checked}
use Rattle.trace_watches.proofs.laws.plain_is_checked.Goals as goal

pub returns : goal.returns
returns g c = plain_checked g.row.A.Denot
