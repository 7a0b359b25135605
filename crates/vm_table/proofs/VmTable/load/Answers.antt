use Rattle.std.proofs.Common.{rules}
use Rattle.vm_table.proofs.VmTable.load.Goals as goal

pub returns : goal.returns
returns c = search rules
