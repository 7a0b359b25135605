use Rattle.std.proofs.Common.{rules}
use Rattle.decisions.proofs.pages.leaf.Goals as goal

pub returns : goal.returns
returns c = search rules
