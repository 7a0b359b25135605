use Rattle.trace_draw.proofs.Alike.{one_text}
use Rattle.trace_draw.proofs.laws.one_text.Goals as goal

pub returns : goal.returns
returns c = one_text
