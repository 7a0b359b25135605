use Rattle.std.proofs.Common.{rules}
use Rattle.vm_table.proofs.VmTable.is_any_loaded.Goals as goal

pub returns : goal.returns
returns c = search rules
