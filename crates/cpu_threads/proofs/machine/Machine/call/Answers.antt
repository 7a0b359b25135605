use Rattle.std.proofs.Common.{rules}
use Rattle.cpu_threads.proofs.machine.Machine.call.Goals as goal

pub returns-clause-answered : goal.returns-clause-answered
returns-clause-answered g c = search rules

pub returns-clause-stored : goal.returns-clause-stored
returns-clause-stored g c = c.call_gated.ensures.stored

pub returns-clause-log_full : goal.returns-clause-log_full
returns-clause-log_full g c = c.call_gated.ensures.log_full
