use Rattle.trace_check.proofs.missing.add_unmet_at.Goals as goal

pub returns-in-Some : goal.returns-in-Some
returns-in-Some c = rw c.in-Some.is c.add_other.ensures
