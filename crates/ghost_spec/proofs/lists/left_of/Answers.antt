use Rattle.std.proofs.Common.{rules}
use Rattle.ghost_spec.proofs.lists.left_of.Goals as goal

pub returns-then-is_stored : goal.returns-then-is_stored
returns-then-is_stored c = search rules
