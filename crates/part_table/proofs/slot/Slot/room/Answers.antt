use Rattle.std.proofs.Common.{rules}
use Rattle.part_table.proofs.slot.Slot.room.Goals as goal

pub returns-in-Shared : goal.returns-in-Shared
returns-in-Shared g c = search rules
