use Rattle.hypercalls.proofs.Wants.{stocked_wants}
use Rattle.hypercalls.proofs.laws.stocked_wants.Goals as goal

pub returns : goal.returns
returns g c = stocked_wants
