use Rattle.std.proofs.Common.{◌≡◌, ◌+◌, ◌≤◌, ◌++◌, map, Some}
use Rattle.std.specs.Vec.{vec_capacity, vec_len}
use Rattle.part_table.specs.declared.slot.Slot.TheVariants.{Guest as GuestSlot}
use Rattle.part_table.proofs.whole.push_guests.Given as goal

-- what was pushed, and what is left
abbrev pub invariant-loop-guests : goal.invariant-loop-guests
invariant-loop-guests g l = record {
  all : l.slots.items ++ map (λ h. Some (GuestSlot h)) l.guests.items
      ≡ l.fn.slots.items ++ map (λ h. Some (GuestSlot h)) l.fn.guests.items;
  room : vec_len l.slots + vec_len l.guests ≤ vec_capacity l.slots;
}

abbrev pub decreases-loop-guests : goal.decreases-loop-guests
decreases-loop-guests g l = goal.left-loop-guests g l
