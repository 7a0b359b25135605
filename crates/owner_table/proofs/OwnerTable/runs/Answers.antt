use Rattle.std.proofs.Common.{rules}
use Rattle.owner_table.proofs.OwnerTable.runs.Goals as goal

pub returns : goal.returns
returns c = search rules
