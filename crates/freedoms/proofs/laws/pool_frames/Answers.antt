use Rattle.freedoms.proofs.Pools.{reclaims_spare, finishes_root}
use Rattle.freedoms.proofs.Totals.{total-same}
use Rattle.freedoms.proofs.laws.pool_frames.Goals as goal

pub returns-clause-reclaims : goal.returns-clause-reclaims
returns-clause-reclaims c = reclaims_spare

pub returns-clause-finishes : goal.returns-clause-finishes
returns-clause-finishes c = finishes_root

pub returns-clause-many : goal.returns-clause-many
returns-clause-many c = total-same
