use Rattle.std.proofs.Common.{rules}
use Rattle.trace_reader.proofs.status.exit_status.Goals as goal

pub returns-in-Ok-Clean : goal.returns-in-Ok-Clean
returns-in-Ok-Clean c = search rules
