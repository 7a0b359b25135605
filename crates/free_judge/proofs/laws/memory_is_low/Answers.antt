use Rattle.page_state.proofs.Accepted.{memory_below}
use Rattle.free_judge.proofs.laws.memory_is_low.Goals as goal

pub returns : goal.returns
returns c = λ f memory. memory_below c.args.layout.now.map f c.regions-regions.ensures.accepted memory
