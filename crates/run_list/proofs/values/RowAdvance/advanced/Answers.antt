use Rattle.std.proofs.Common.{rules}
use Rattle.run_list.proofs.values.RowAdvance.advanced.Goals as goal

pub returns : goal.returns
returns c = search rules
