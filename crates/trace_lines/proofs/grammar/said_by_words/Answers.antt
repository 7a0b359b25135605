use Rattle.std.proofs.Common.{rules}
use Rattle.trace_lines.proofs.grammar.said_by_words.Goals as goal

pub returns : goal.returns
returns c = search rules
