use Rattle.std.proofs.Common.{◌≡◌, map, take}
use Rattle.world.proofs.histories.guest_logs.Given as goal

abbrev pub invariant-loop-guest : goal.invariant-loop-guest
invariant-loop-guest g l =
    map (λ calls. calls.items) l.logs.items ≡ map (λ g. g.log.calls) (take l.guest-index l.guests)
