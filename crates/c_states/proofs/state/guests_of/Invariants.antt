use Rattle.std.proofs.Common.{◌≡◌, map}
use Rattle.std.specs.List.{range_with_len}
use Rattle.c_states.specs.Filled.{guest_lists_from_c, lists_in}
use Rattle.c_states.specs.Lists.{guest_listed}
use Rattle.c_states.specs.Views.{lists_from_c}
use Rattle.c_states.proofs.state.guests_of.Given as goal

abbrev pub invariant-loop-slot : goal.invariant-loop-slot
invariant-loop-slot l =
    map lists_in l.made.items
    ≡ map (λ n. guest_lists_from_c (lists_from_c l.state) n (guest_listed l.state.guests.now n))
    (range_with_len 0 l.slot)
