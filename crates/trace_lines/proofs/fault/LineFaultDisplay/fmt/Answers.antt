use Rattle.std.proofs.Common.{rules}
use Rattle.trace_lines.proofs.fault.LineFaultDisplay.fmt.Goals as goal

pub returns : goal.returns
returns c = search rules
