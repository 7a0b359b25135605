use Rattle.trace_watches.proofs.Held.{unmissed}
use Rattle.trace_watches.proofs.laws.unmissed_holds.Goals as goal

pub returns : goal.returns
returns g c = unmissed g.row.A.Denot
