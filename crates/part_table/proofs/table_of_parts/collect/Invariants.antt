use Rattle.std.proofs.Common.{◌≡◌, ◌≤◌}
use Rattle.std.specs.Vec.{vec_capacity, vec_len}
use Rattle.std.specs.Slots.{slots_items, slots_filled, slots_len}
use Rattle.std.specs.Mem.Slots.Ownership.{Filled}
use Rattle.part_table.specs.Parts.{parts}
use Rattle.part_table.specs.Endings.{Gives, emptied_to}
use Rattle.part_table.proofs.table_of_parts.collect.Given as goal

abbrev pub invariant-loop-k : goal.invariant-loop-k
invariant-loop-k g l =
    (slots_items l.closed.slots ≡ slots_items l.initial.closed.slots)
    × (slots_len l.closed.slots ≡ parts)
    × Filled (slots_filled l.closed.slots) l.k parts
    × emptied_to l.k (slots_filled l.closed.slots)
    × Gives l.k (slots_items l.initial.closed.slots) l.found.items
    × (vec_len l.found ≡ l.k)
    × (parts ≤ vec_capacity l.found)
