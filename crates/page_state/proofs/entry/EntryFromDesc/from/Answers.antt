use Rattle.std.proofs.Common.{rules}
use Rattle.page_state.proofs.entry.EntryFromDesc.from.Goals as goal

pub returns-in-Malformed : goal.returns-in-Malformed
returns-in-Malformed c = search rules
