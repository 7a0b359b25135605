use Rattle.std.proofs.Common.{◌≡◌, ℕ, ◌<◌, Option, length, get_or}
use Rattle.part_types.specs.declared.parts.GuestPart.{GuestPart}
use Rattle.ghost_spec.specs.declared.parts.GhostGuest.{GhostGuest}
use Rattle.ghost_oracle.specs.declared.raw.RawGuest.{RawGuest}
use Rattle.ghost_oracle.specs.RawFound.{IsSlotFound}
use Rattle.ghost_oracle.proofs.raw_kept.slot_guests.Given as goal

abbrev pub invariant-loop-v : goal.invariant-loop-v
invariant-loop-v g l = record {
  found : (k : ℕ) (part : GuestPart g.row.A.Denot) (held : Option (RawGuest g.row.A.Denot)) (x : GhostGuest)
      → k < l.v
      → IsSlotFound l.fn.source (get_or l.guests k part) (get_or l.poked k held) (get_or l.found.items k x);
  count : length l.found.items ≡ l.v;
}
