use Rattle.trace_race.proofs.FullAfter.{full_after}
use Rattle.trace_race.proofs.NotFull.{first_not_full}
use Rattle.trace_race.proofs.laws.full_logs.Goals as goal

pub returns-clause-first : goal.returns-clause-first
returns-clause-first c = first_not_full

pub returns-clause-after : goal.returns-clause-after
returns-clause-after c = full_after
