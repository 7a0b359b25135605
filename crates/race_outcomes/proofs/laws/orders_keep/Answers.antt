use Rattle.race_outcomes.proofs.Places.{orders_keep}
use Rattle.race_outcomes.proofs.laws.orders_keep.Goals as goal

pub returns : goal.returns
returns c = orders_keep
