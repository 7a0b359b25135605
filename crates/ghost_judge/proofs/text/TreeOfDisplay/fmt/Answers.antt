use Rattle.std.proofs.Common.{rules}
use Rattle.ghost_judge.proofs.text.TreeOfDisplay.fmt.Goals as goal

pub returns-in-Hyp-clause-writes : goal.returns-in-Hyp-clause-writes
returns-in-Hyp-clause-writes g c = search rules
