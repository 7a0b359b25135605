use Rattle.std.proofs.Common.{rules}
use Rattle.decisions.proofs.calls.guest_pages.reclaimed.Goals as goal

pub returns-else-is_in : goal.returns-else-is_in
returns-else-is_in c = search rules
