use Rattle.std.proofs.Common.{rules}
use Rattle.vm_table.proofs.VmTable.change.Goals as goal

pub returns-in-Close : goal.returns-in-Close
returns-in-Close c = search rules
