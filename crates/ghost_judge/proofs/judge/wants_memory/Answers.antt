use Rattle.std.proofs.Common.{rules}
use Rattle.ghost_judge.proofs.judge.wants_memory.Goals as goal

pub returns-in-Done : goal.returns-in-Done
returns-in-Done c = search rules
