use Rattle.ghost_oracle.proofs.Extended.{none_pending}
use Rattle.ghost_oracle.proofs.pending.nothing_pending.Goals as goal

pub returns-clause-pending : goal.returns-clause-pending
returns-clause-pending c m depth left = none_pending m depth c.args.first left
