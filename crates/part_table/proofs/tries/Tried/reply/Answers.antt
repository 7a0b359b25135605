use Rattle.std.proofs.Common.{rules}
use Rattle.part_table.proofs.tries.Tried.reply.Goals as goal

pub returns-in-Stored : goal.returns-in-Stored
returns-in-Stored c = search rules
