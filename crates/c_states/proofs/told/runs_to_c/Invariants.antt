use Rattle.std.proofs.Common.{◌≡◌, ℕ, ◌+◌, [], get_or, map, take}
use Rattle.ghost_spec.specs.declared.parts.GhostGuest.{GhostGuest}
use Rattle.c_states.specs.Lists.{runs_from_c}
use Rattle.c_states.specs.Known.{is_run}
use Rattle.c_states.specs.Told.{AreKnown}
use Rattle.c_states.proofs.told.runs_to_c.Given as goal

abbrev pub invariant-loop-i : goal.invariant-loop-i
invariant-loop-i l =
    (runs_from_c l.told.items 0 ≡ l.lists.shared.host.runs.items)
    × (runs_from_c l.told.items 1 ≡ l.lists.shared.hyp.runs.items)
    × ((v : ℕ)
    → runs_from_c l.told.items (2 + v)
    ≡ get_or (map (λ (g : GhostGuest). g.tree.runs.items) (take l.i l.lists.guests.items)) v [])
    × (AreKnown is_run l.told.items)
