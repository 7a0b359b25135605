use Rattle.trace_cover.proofs.Once.{each_once}
use Rattle.trace_cover.proofs.laws.each_once.Goals as goal

pub returns : goal.returns
returns c = each_once
