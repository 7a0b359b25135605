use Rattle.std.proofs.Common.{rules}
use Rattle.hyp_pool.proofs.PoolFaultFromAllocError.from.Goals as goal

pub returns : goal.returns
returns c = search rules
