use Rattle.run_list.proofs.Once.{once}
use Rattle.run_list.proofs.laws.coarsest_once.Goals as goal

pub returns : goal.returns
returns g c = once g.V.Advance.advance g.V.Advance.CanAdvance g.V.PartialEq.eq g.met.V.Advance.laws
