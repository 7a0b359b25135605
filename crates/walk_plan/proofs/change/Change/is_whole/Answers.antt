use Rattle.std.proofs.Common.{rules}
use Rattle.walk_plan.proofs.change.Change.is_whole.Goals as goal

pub returns-then-self-depth : goal.returns-then-self-depth
returns-then-self-depth c = search rules
