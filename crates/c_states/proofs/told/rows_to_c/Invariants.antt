use Rattle.std.proofs.Common.{◌≡◌, take}
use Rattle.c_states.specs.Lists.{rows_from_c}
use Rattle.c_states.specs.Known.{is_row}
use Rattle.c_states.specs.Told.{AreKnown}
use Rattle.c_states.proofs.told.rows_to_c.Given as goal

abbrev pub invariant-loop-i : goal.invariant-loop-i
invariant-loop-i l =
    (rows_from_c l.told.items ≡ take l.i l.runs)
    × (AreKnown is_row l.told.items)
