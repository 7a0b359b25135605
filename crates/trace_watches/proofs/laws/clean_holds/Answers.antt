use Rattle.trace_watches.proofs.Held.{clean_holds}
use Rattle.trace_watches.proofs.laws.clean_holds.Goals as goal

pub returns : goal.returns
returns g c = clean_holds g.row.A.Denot
