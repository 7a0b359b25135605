use Rattle.trace_values.proofs.Turns.{plain_checked}
use Rattle.trace_values.proofs.laws.plain_is_checked.Goals as goal

pub returns : goal.returns
returns g c = plain_checked g.row.A.Denot
