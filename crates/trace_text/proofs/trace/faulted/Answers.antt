use Rattle.std.proofs.Common.{rules}
use Rattle.trace_text.proofs.trace.faulted.Goals as goal

pub returns-clause-ok : goal.returns-clause-ok
returns-clause-ok g c = search rules
