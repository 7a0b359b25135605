use Rattle.std.proofs.Common.{rules}
use Rattle.page_state.proofs.entry.Entry.target.Goals as goal

pub returns-in-Leaf : goal.returns-in-Leaf
returns-in-Leaf c = search rules

pub returns-in-Unmapped : goal.returns-in-Unmapped
returns-in-Unmapped c = search rules

pub returns-in-Malformed : goal.returns-in-Malformed
returns-in-Malformed c = search rules

pub returns-in-Annotated : goal.returns-in-Annotated
returns-in-Annotated c = search rules
