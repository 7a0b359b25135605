use Rattle.std.proofs.Common.{rules}
use Rattle.page_state.proofs.entry.PageRange.contains.Goals as goal

pub returns-then-page-self : goal.returns-then-page-self
returns-then-page-self c = search rules

pub returns-else-page-self : goal.returns-else-page-self
returns-else-page-self c = search rules
