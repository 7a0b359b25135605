use Rattle.std.proofs.Common.{rules}
use Rattle.decisions.proofs.pages.with_rights.Goals as goal

pub returns-in-Leaf : goal.returns-in-Leaf
returns-in-Leaf c = search rules
