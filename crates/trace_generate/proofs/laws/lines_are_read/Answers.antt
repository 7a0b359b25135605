use Rattle.trace_generate.proofs.Lines.{lines_are_read}
use Rattle.trace_generate.proofs.laws.lines_are_read.Goals as goal

pub returns : goal.returns
returns c = lines_are_read
