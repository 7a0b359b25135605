use Rattle.std.proofs.Common.{rules}
use Rattle.page_state.proofs.entry.Entry.advance.Goals as goal

pub returns-in-Leaf : goal.returns-in-Leaf
returns-in-Leaf c = search rules

pub returns-in_default : goal.returns-in_default
returns-in_default c = search rules
