use Rattle.std.proofs.Common.{rules}
use Rattle.page_state.proofs.entry.EntryFromTarget.from.Goals as goal

pub returns-in-Annotated : goal.returns-in-Annotated
returns-in-Annotated c = search rules
