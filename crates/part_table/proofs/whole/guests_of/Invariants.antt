use Rattle.std.proofs.Common.{◌≡◌, ◌+◌, ◌≤◌, ◌++◌, map}
use Rattle.std.specs.Vec.{vec_capacity, vec_len}
use Rattle.part_table.specs.declared.slot.Slot.TheVariants.{Guest as GuestSlot}
use Rattle.part_table.specs.Whole.{AreGuests}
use Rattle.part_table.proofs.whole.guests_of.Given as goal

-- the guests that are found, and the slots that are left
abbrev pub invariant-loop-found : goal.invariant-loop-found
invariant-loop-found g l = record {
  all : map (λ h. GuestSlot h) l.guests.items ++ l.found.items ≡ l.fn.found.items;
  kinds : AreGuests l.found.items;
  room : vec_len l.guests + vec_len l.found ≤ vec_capacity l.guests;
}

abbrev pub decreases-loop-found : goal.decreases-loop-found
decreases-loop-found g l = goal.left-loop-found g l
