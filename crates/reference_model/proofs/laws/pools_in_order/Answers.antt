use Rattle.reference_model.proofs.conditions.InOrder.{run_in_order}
use Rattle.reference_model.proofs.laws.pools_in_order.Goals as goal

pub returns : goal.returns
returns c = run_in_order
