use Rattle.std.proofs.Common.{ap, map, ◌∙◌}
use Rattle.c_states.specs.Filled.{guest_lists_from_c, lists_in}
use Rattle.c_states.specs.Lists.{guest_listed}
use Rattle.c_states.specs.Views.{lists_from_c}
use Rattle.c_states.proofs.OneMore.{numbered_more}
use Rattle.c_states.proofs.state.guests_of.Goals as goal

pub loop-slot-preserved : goal.loop-slot-preserved
loop-slot-preserved c =
    ap (map lists_in) c.in_ok-push.ensures.items
    ∙ numbered_more lists_in
    (λ n. guest_lists_from_c (lists_from_c c.args.state.now) n
    (guest_listed c.args.state.now.guests.now n)) c.loop-slot.made.items c.loop-slot.slot
    c.in_ok-guest.guest c.loop-slot.invariant
    (c.in_ok-guest.ensures
    ∙ ap (guest_lists_from_c (lists_from_c c.args.state.now) c.loop-slot.slot) c.listed_guest.ensures)
