use Rattle.std.proofs.Common.{rules}
use Rattle.vm_table.proofs.VmTable.put.Goals as goal

pub returns : goal.returns
returns c = search rules
