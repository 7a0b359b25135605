use Rattle.std.proofs.Common.{rules}
use Rattle.ghost_judge.proofs.judge.in_cpus.Goals as goal

pub returns-in-None : goal.returns-in-None
returns-in-None c = search rules
