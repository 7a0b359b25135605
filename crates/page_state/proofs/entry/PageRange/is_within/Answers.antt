use Rattle.std.proofs.Common.{rules}
use Rattle.page_state.proofs.entry.PageRange.is_within.Goals as goal

pub returns-then-self-other-2 : goal.returns-then-self-other-2
returns-then-self-other-2 c = search rules

pub returns-else-self-other-2 : goal.returns-else-self-other-2
returns-else-self-other-2 c = search rules
