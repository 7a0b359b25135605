use Rattle.std.proofs.Common.{◌≡◌, ℕ, ◌+◌, [], get_or, map, take}
use Rattle.ghost_spec.specs.declared.parts.GhostGuest.{GhostGuest}
use Rattle.c_states.specs.Lists.{frames_from_c}
use Rattle.c_states.specs.Known.{is_frame}
use Rattle.c_states.specs.Told.{AreKnown}
use Rattle.c_states.proofs.told.frames_to_c.Given as goal

abbrev pub invariant-loop-i : goal.invariant-loop-i
invariant-loop-i l =
    (frames_from_c l.told.items 1 ≡ l.lists.shared.free.items)
    × ((v : ℕ)
    → frames_from_c l.told.items (2 + v)
    ≡ get_or (map (λ (g : GhostGuest). g.free.items) (take l.i l.lists.guests.items)) v [])
    × (AreKnown is_frame l.told.items)
