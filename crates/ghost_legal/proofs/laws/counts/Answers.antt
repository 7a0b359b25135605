use Rattle.ghost_legal.proofs.Whole.{all-counted}
use Rattle.ghost_legal.proofs.laws.counts.Goals as goal

pub returns : goal.returns
returns c = all-counted
