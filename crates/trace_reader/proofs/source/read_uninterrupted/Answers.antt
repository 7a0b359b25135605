use Rattle.std.proofs.Common.{rules}
use Rattle.trace_reader.proofs.source.read_uninterrupted.Goals as goal

pub returns-clause-bytes : goal.returns-clause-bytes
returns-clause-bytes g c = search rules
