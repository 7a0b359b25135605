use Rattle.std.proofs.Common.{rules}
use Rattle.trace_lines.proofs.argument.range_of.Goals as goal

pub returns : goal.returns
returns c = search rules

pub returns-in_err-count : goal.returns-in_err-count
returns-in_err-count c = search rules
