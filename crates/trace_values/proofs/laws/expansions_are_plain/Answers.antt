use Rattle.trace_values.proofs.Turns.{plain}
use Rattle.trace_values.proofs.laws.expansions_are_plain.Goals as goal

pub returns : goal.returns
returns g c = plain g.row.A.Denot
