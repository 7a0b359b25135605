use Rattle.trace_cover.proofs.Legality.{same_condition}
use Rattle.trace_cover.proofs.laws.same_condition.Goals as goal

pub returns : goal.returns
returns c = same_condition
