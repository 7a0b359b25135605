use Rattle.trace_values.proofs.Turns.{Leads}
use Rattle.trace_values.proofs.expanding.all_put.Given as goal

abbrev pub invariant-loop-turn : goal.invariant-loop-turn
invariant-loop-turn g l = Leads g.row.A.Denot l.trace l.text.items
