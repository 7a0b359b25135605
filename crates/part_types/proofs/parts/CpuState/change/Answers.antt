use Rattle.std.proofs.Common.{rules}
use Rattle.part_types.proofs.parts.CpuState.change.Goals as goal

pub returns-clause-made : goal.returns-clause-made
returns-clause-made c = search rules
