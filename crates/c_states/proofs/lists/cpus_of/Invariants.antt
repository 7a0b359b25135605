use Rattle.std.proofs.Common.{◌≡◌, map}
use Rattle.std.specs.List.{range_with_len}
use Rattle.ghost_spec.specs.Views.{cpu_in}
use Rattle.c_states.specs.Lists.{cpu_listed, cpu_from_c}
use Rattle.c_states.proofs.lists.cpus_of.Given as goal

abbrev pub invariant-loop-number : goal.invariant-loop-number
invariant-loop-number l =
    map cpu_in l.made.items ≡ map (λ c. cpu_from_c (cpu_listed l.cpus c)) (range_with_len 0 l.number)
