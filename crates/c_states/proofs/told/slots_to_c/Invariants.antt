use Rattle.std.proofs.Common.{◌≡◌, map, take}
use Rattle.std.specs.List.{range_with_len}
use Rattle.c_states.specs.declared.members.PlainSlot.{PlainSlot}
use Rattle.c_states.specs.Told.{slot_head_in, slot_head_from_c}
use Rattle.std.proofs.Common.{◌≤◌, length}
use Rattle.c_states.specs.Known.{is_slot}
use Rattle.c_states.specs.Told.{AreKnown}
use Rattle.c_states.proofs.told.slots_to_c.Given as goal

abbrev pub invariant-loop-i : goal.invariant-loop-i
invariant-loop-i l =
    (map (λ (s : PlainSlot). s.slot) l.told.items ≡ map (λ n. n) (range_with_len 0 l.i))
    × (map slot_head_from_c l.told.items ≡ map slot_head_in (take l.i l.slots))
    × (length l.slots ≤ 64 → AreKnown is_slot l.told.items)
