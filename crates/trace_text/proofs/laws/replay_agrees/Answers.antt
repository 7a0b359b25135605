use Rattle.trace_text.proofs.Agreeing.{trace_agrees}
use Rattle.trace_text.proofs.laws.replay_agrees.Goals as goal

pub returns : goal.returns
returns c = record { agrees = trace_agrees }
