use Rattle.std.proofs.Common.{◌≡◌, map}
use Rattle.std.specs.List.{range_with_len}
use Rattle.c_states.specs.Lists.{loader_from_c}
use Rattle.c_states.proofs.lists.loaders_of.Given as goal

abbrev pub invariant-loop-vcpu : goal.invariant-loop-vcpu
invariant-loop-vcpu l = l.loaders.items ≡ map (loader_from_c l.loads l.slot) (range_with_len 0 l.vcpu)
