use Rattle.trace_cover.proofs.Unlisted.{unlisted_pass}
use Rattle.trace_cover.proofs.laws.unlisted_pass.Goals as goal

pub returns : goal.returns
returns c = unlisted_pass
