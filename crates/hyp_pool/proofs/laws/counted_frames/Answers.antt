use Rattle.hyp_pool.proofs.Counts.{count_contains, count_once}
use Rattle.hyp_pool.proofs.laws.counted_frames.Goals as goal

pub returns-clause-contains : goal.returns-clause-contains
returns-clause-contains c = count_contains

pub returns-clause-once : goal.returns-clause-once
returns-clause-once c = count_once
