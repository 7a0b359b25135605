use Rattle.trace_cover.proofs.Legality.{never_found}
use Rattle.trace_cover.proofs.laws.never_found.Goals as goal

pub returns : goal.returns
returns c = never_found
