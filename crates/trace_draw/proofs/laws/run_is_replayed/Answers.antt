use Rattle.trace_draw.proofs.Replayed.{run_is_replayed}
use Rattle.trace_draw.proofs.laws.run_is_replayed.Goals as goal

pub returns : goal.returns
returns c = run_is_replayed
