use Rattle.hyp_pool.proofs.Order.{given_back}
use Rattle.hyp_pool.proofs.laws.given_back.Goals as goal

pub returns : goal.returns
returns c = given_back
