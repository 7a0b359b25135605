use Rattle.page_state.proofs.Accepted.{memory_below}
use Rattle.ghost_rows.proofs.rows.is_low_memory.Goals as goal

pub returns : goal.returns
returns c = λ f memory. memory_below c.args.layout.now.map f c.regions-regions.ensures.accepted memory
