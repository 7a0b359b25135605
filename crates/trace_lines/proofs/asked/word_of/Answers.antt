use Rattle.std.proofs.Common.{rules}
use Rattle.trace_lines.proofs.asked.word_of.Goals as goal

pub returns : goal.returns
returns c = search rules

pub returns-in_err-page : goal.returns-in_err-page
returns-in_err-page c = search rules
