use Rattle.ghost_oracle.proofs.Counting.{on_ok}
use Rattle.ghost_oracle.proofs.kept.recompute.Goals as goal

pub returns-clause-kept : goal.returns-clause-kept
returns-clause-kept g c = λ past. c.with_scratch.ensures.kept (c.in_ok-found.ensures.kept past)

pub returns-clause-reads : goal.returns-clause-reads
returns-clause-reads g c = on_ok _ c.with_scratch.result c.in_ok-found.ensures.reads
