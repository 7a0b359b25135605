use Rattle.std.proofs.Common.{rules}
use Rattle.trace_reader.proofs.source.CountingSource.read.Goals as goal

pub returns-in-Err-clause-counted : goal.returns-in-Err-clause-counted
returns-in-Err-clause-counted g c = search rules
