use Rattle.std.proofs.Common.{◌∙◌, map, ap}
use Rattle.std.proofs.lemmas.List.{take_all}
use Rattle.ghost_oracle.proofs.Lists.{given_next}
use Rattle.ghost_oracle.proofs.parts.guest_rooms.Goals as goal

pub loop-guest-preserved : goal.loop-guest-preserved
loop-guest-preserved g c =
    c.in_ok-push.ensures.items
    ∙ given_next
    (λ p. p.log.room) c.args.guests.now c.loop-guest.guest-index c.guest-item.result c.loop-guest-test.true
    c.guest-item.is c.loop-guest.rooms.items c.room.result c.loop-guest.invariant c.room.ensures

pub returns : goal.returns
returns g c =
    c.loop-guest.invariant
    ∙ ap (map (λ p. p.log.room)) (take_all c.loop-guest.guest-index c.args.guests.now c.loop-guest-test.false)
