use Rattle.trace_explain.proofs.Alike.{one_text}
use Rattle.trace_explain.proofs.laws.one_text.Goals as goal

pub returns : goal.returns
returns c = one_text
