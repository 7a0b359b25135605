use Rattle.trace_outcomes.proofs.Lines.{lines_are_read}
use Rattle.trace_outcomes.proofs.laws.lines_are_read.Goals as goal

pub returns : goal.returns
returns c = lines_are_read
