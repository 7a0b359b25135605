use Rattle.std.proofs.Common.{rules}
use Rattle.part_table.proofs.pass.CpuPass.calls.Goals as goal

pub returns : goal.returns
returns g c = search rules
