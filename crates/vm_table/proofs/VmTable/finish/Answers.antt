use Rattle.std.proofs.Common.{rules}
use Rattle.vm_table.proofs.VmTable.finish.Goals as goal

pub returns : goal.returns
returns c = search rules
