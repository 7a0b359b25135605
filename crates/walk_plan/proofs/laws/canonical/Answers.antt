use Rattle.walk_plan.proofs.Coarse.{tree_canonical}
use Rattle.walk_plan.proofs.laws.canonical.Goals as goal

pub returns : goal.returns
returns g c = tree_canonical c.args.tree.now
