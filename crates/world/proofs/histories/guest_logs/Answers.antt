use Rattle.std.proofs.Common.{◌∙◌, map, ap}
use Rattle.std.proofs.lemmas.List.{take_all}
use Rattle.ghost_oracle.proofs.Lists.{mapped_next}
use Rattle.world.proofs.histories.guest_logs.Goals as goal

pub loop-guest-init : goal.loop-guest-init
loop-guest-init g c = ap (map (λ v. v.items)) c.in_ok-logs.ensures.items

pub loop-guest-preserved : goal.loop-guest-preserved
loop-guest-preserved g c =
    ap (map (λ v. v.items)) c.in_ok-push.ensures.items
    ∙ mapped_next
    (λ p. p.log.calls) c.args.guests.now c.loop-guest.guest-index c.guest-item.result c.loop-guest-test.true
    c.guest-item.is
    (λ v. v.items) c.loop-guest.logs.items c.in_ok-from_slice.field-0 c.loop-guest.invariant
    (c.in_ok-from_slice.ensures.items ∙ c.calls.ensures)

pub returns : goal.returns
returns g c =
    c.loop-guest.invariant
    ∙ ap (map (λ p. p.log.calls)) (take_all c.loop-guest.guest-index c.args.guests.now c.loop-guest-test.false)
