use Rattle.std.proofs.Common.{◌≡◌, map, take}
use Rattle.std.specs.List.{range_with_len}
use Rattle.ghost_spec.specs.Views.{cpu_in}
use Rattle.c_states.specs.declared.members.PlainCpu.{PlainCpu}
use Rattle.c_states.specs.Lists.{cpu_from_c}
use Rattle.std.proofs.Common.{length}
use Rattle.c_states.specs.Told.{is_cpu_well_formed, AreKnown}
use Rattle.c_states.proofs.told.cpus_to_c.Given as goal

abbrev pub invariant-loop-i : goal.invariant-loop-i
invariant-loop-i l =
    (map (λ (k : PlainCpu). k.cpu) l.told.items ≡ map (λ n. n) (range_with_len 0 l.i))
    × (map cpu_from_c l.told.items ≡ map cpu_in (take l.i l.cpus))
    × (AreKnown (is_cpu_well_formed (length l.cpus)) l.told.items)
