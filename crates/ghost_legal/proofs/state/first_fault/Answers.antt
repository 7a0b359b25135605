use Rattle.ghost_legal.proofs.Contradicted.{frames-fit}
use Rattle.ghost_legal.proofs.state.first_fault.Goals as goal

pub returns : goal.returns
returns c = frames-fit c.args.state.now c.in_default-first_page.ensures c.first_held.result c.first_held.ensures
