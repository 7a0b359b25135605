use Rattle.std.proofs.Common.{◌≡◌, ℕ, [], None, get_or, map, take}
use Rattle.ghost_spec.specs.declared.parts.GhostSlot.{GhostSlot}
use Rattle.c_states.specs.Lists.{loader_from_c}
use Rattle.std.proofs.Common.{◌≤◌, length}
use Rattle.c_states.specs.Told.{AreLoads}
use Rattle.c_states.proofs.told.loads_to_c.Given as goal

abbrev pub invariant-loop-i : goal.invariant-loop-i
invariant-loop-i l =
    ((s k : ℕ)
    → loader_from_c l.told.items s k
    ≡ get_or (get_or (map (λ (x : GhostSlot). x.loaded.items) (take l.i l.slots)) s []) k None)
    × (length l.slots ≤ 64 → AreLoads l.told.items)
