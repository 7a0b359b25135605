use Rattle.std.proofs.Common.{◌≡◌, map, take}
use Rattle.ghost_oracle.proofs.parts.guest_rooms.Given as goal

abbrev pub invariant-loop-guest : goal.invariant-loop-guest
invariant-loop-guest g l = l.rooms.items ≡ map (λ p. p.log.room) (take l.guest-index l.guests)
