use Rattle.std.proofs.Common.{◌≡◌, ℕ, ◌+◌, [], get_or, map, take}
use Rattle.ghost_spec.specs.declared.parts.GhostGuest.{GhostGuest}
use Rattle.c_states.specs.Lists.{tables_from_c}
use Rattle.c_states.specs.Known.{is_table}
use Rattle.c_states.specs.Told.{AreKnown}
use Rattle.c_states.proofs.told.tables_to_c.Given as goal

abbrev pub invariant-loop-i : goal.invariant-loop-i
invariant-loop-i l =
    (tables_from_c l.told.items 0 ≡ l.lists.shared.host.tables.items)
    × (tables_from_c l.told.items 1 ≡ l.lists.shared.hyp.tables.items)
    × ((v : ℕ)
    → tables_from_c l.told.items (2 + v)
    ≡ get_or (map (λ (g : GhostGuest). g.tree.tables.items) (take l.i l.lists.guests.items)) v [])
    × (AreKnown is_table l.told.items)
