use Rattle.world.proofs.MergedLists.{never_stuck}
use Rattle.world.proofs.World.merge.Goals as goal

pub returns-clause-of_history : goal.returns-clause-of_history
returns-clause-of_history g c = never_stuck c.args.histories.now c.merged.result c.merged.ensures.no_order
