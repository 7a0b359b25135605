use Rattle.ghost_judge.proofs.PoolLists.{same_frames}
use Rattle.ghost_judge.proofs.pools.in_frames.Goals as goal

pub returns-in-None : goal.returns-in-None
returns-in-None c = same_frames c.args.post.now c.args.spec.now c.in-None.ensures
