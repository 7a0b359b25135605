use Rattle.trace_check.proofs.Recorded.{recorded_met}
use Rattle.trace_check.proofs.Whole.{record_met}
use Rattle.trace_check.proofs.laws.recorded_is_met.Goals as goal

pub returns-clause-lines : goal.returns-clause-lines
returns-clause-lines c = recorded_met

pub returns-clause-bytes : goal.returns-clause-bytes
returns-clause-bytes c = record_met
