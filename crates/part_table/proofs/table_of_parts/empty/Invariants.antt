use Rattle.std.proofs.Common.{◌≡◌}
use Rattle.std.specs.Slots.{slots_filled, slots_len}
use Rattle.std.specs.Mem.Slots.Ownership.{Filled}
use Rattle.part_table.specs.Parts.{parts}
use Rattle.part_table.specs.Endings.{emptied_to}
use Rattle.part_table.proofs.table_of_parts.empty.Given as goal

abbrev pub invariant-loop-k : goal.invariant-loop-k
invariant-loop-k g l =
    (slots_len l.closed.slots ≡ parts)
    × Filled (slots_filled l.closed.slots) l.k parts
    × emptied_to l.k (slots_filled l.closed.slots)
