use Rattle.std.proofs.Common.{◌≡◌, map, take}
use Rattle.std.specs.List.{range_with_len}
use Rattle.c_states.specs.declared.members.PlainGuest.{PlainGuest}
use Rattle.c_states.specs.Told.{guest_head_in, guest_head_from_c}
use Rattle.std.proofs.Common.{◌≤◌, length}
use Rattle.c_states.specs.Known.{is_guest}
use Rattle.c_states.specs.Told.{AreKnown}
use Rattle.c_states.proofs.told.guests_to_c.Given as goal

abbrev pub invariant-loop-i : goal.invariant-loop-i
invariant-loop-i l =
    (map (λ (g : PlainGuest). g.slot) l.told.items ≡ map (λ n. n) (range_with_len 0 l.i))
    × (map guest_head_from_c l.told.items ≡ map guest_head_in (take l.i l.guests))
    × (length l.guests ≤ 64 → AreKnown is_guest l.told.items)
