use Rattle.std.proofs.Common.{rules}
use Rattle.trace_lines.proofs.place.Allows.before_boot.Goals as goal

pub returns : goal.returns
returns c = search rules
