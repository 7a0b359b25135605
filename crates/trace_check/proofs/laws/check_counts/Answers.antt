use Rattle.trace_check.proofs.Counted.{check_counts}
use Rattle.trace_check.proofs.laws.check_counts.Goals as goal

pub returns : goal.returns
returns c = check_counts
