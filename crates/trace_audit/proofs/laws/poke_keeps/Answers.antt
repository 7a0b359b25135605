use Rattle.trace_audit.proofs.Poking.{first_keeps, next_keeps}
use Rattle.trace_audit.proofs.laws.poke_keeps.Goals as goal

pub returns-clause-first : goal.returns-clause-first
returns-clause-first g c = first_keeps {A = g.row.A.Denot}

pub returns-clause-next : goal.returns-clause-next
returns-clause-next g c = next_keeps {A = g.row.A.Denot}
