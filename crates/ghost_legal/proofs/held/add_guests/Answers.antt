use Rattle.std.proofs.Common.{take, ap, sym, ◌∙◌, ◌++◌}
use Rattle.ghost_legal.specs.Listed.{guest_held, guests_held}
use Rattle.ghost_legal.proofs.Listed.{guests_more, next_behind}
use Rattle.ghost_legal.proofs.held.add_guests.Goals as goal

pub loop-v-preserved : goal.loop-v-preserved
loop-v-preserved c =
    next_behind c.args.held.now.items c.loop-v.held.items c.add_guest.new.held.items _
    (λ n. guests_held 0 (take n c.args.guests.now)) c.loop-v.v c.loop-v.invariant c.in_ok-add_guest.ensures
    (guests_more c.args.guests.now c.loop-v.v _ c.loop-v-test.true
    ∙ ap (λ g. guests_held 0 (take c.loop-v.v c.args.guests.now) ++ guest_held c.loop-v.v g)
    (sym c.index-guests-v.is))
