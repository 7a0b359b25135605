use Rattle.std.proofs.Common.{◌≡◌, map}
use Rattle.std.specs.List.{range_with_len}
use Rattle.ghost_spec.specs.States.{slot_in}
use Rattle.c_states.specs.Filled.{slot_filled}
use Rattle.c_states.specs.Lists.{slot_listed}
use Rattle.c_states.proofs.state.slots_of.Given as goal

abbrev pub invariant-loop-number : goal.invariant-loop-number
invariant-loop-number l =
    map slot_in l.made.items ≡ map (λ n. slot_filled l.loads n (slot_listed l.slots n)) (range_with_len 0 l.number)
