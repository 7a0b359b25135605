use Rattle.std.proofs.Common.{◌≡◌, ℕ, None, get_or, take}
use Rattle.std.specs.Prelude.{◌==◌, if◌then◌else◌}
use Rattle.std.specs.Option.{option_or}
use Rattle.c_states.specs.Lists.{loader_from_c}
use Rattle.std.proofs.Common.{◌<◌}
use Rattle.c_states.specs.Told.{AreLoads}
use Rattle.c_states.proofs.told.push_loads.Given as goal

abbrev pub invariant-loop-i : goal.invariant-loop-i
invariant-loop-i l =
    ((s k : ℕ)
    → loader_from_c l.told.items s k
    ≡ option_or (loader_from_c l.fn.told.items s k)
    (if l.slot == s then get_or (take l.i l.loaded) k None else None))
    × (l.slot < 64 → AreLoads l.fn.told.items → AreLoads l.told.items)
