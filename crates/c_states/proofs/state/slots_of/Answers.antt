use Rattle.std.proofs.Common.{ap, map, ◌∙◌}
use Rattle.ghost_spec.specs.States.{slot_in}
use Rattle.c_states.specs.Filled.{slot_filled}
use Rattle.c_states.specs.Lists.{slot_listed}
use Rattle.c_states.proofs.OneMore.{numbered_more}
use Rattle.c_states.proofs.state.slots_of.Goals as goal

pub loop-number-preserved : goal.loop-number-preserved
loop-number-preserved c =
    ap (map slot_in) c.in_ok-push.ensures.items
    ∙ numbered_more slot_in
    (λ n. slot_filled c.args.loads.now n (slot_listed c.args.slots.now n)) c.loop-number.made.items
    c.loop-number.number c.in_ok-slot.slot c.loop-number.invariant
    (c.in_ok-slot.ensures ∙ ap (slot_filled c.args.loads.now c.loop-number.number) c.listed_slot.ensures)
