use Rattle.trace_generate.proofs.Lines.{lines_are_short}
use Rattle.trace_generate.proofs.laws.lines_are_short.Goals as goal

pub returns : goal.returns
returns c = lines_are_short
