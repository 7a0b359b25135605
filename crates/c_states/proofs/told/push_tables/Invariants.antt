use Rattle.std.proofs.Common.{◌≡◌, ℕ, [], ◌++◌, take}
use Rattle.std.specs.Prelude.{◌==◌, if◌then◌else◌}
use Rattle.c_states.specs.Lists.{tables_from_c}
use Rattle.std.proofs.Common.{◌<◌}
use Rattle.c_states.specs.Known.{is_table}
use Rattle.c_states.specs.Told.{AreKnown}
use Rattle.c_states.proofs.told.push_tables.Given as goal

abbrev pub invariant-loop-i : goal.invariant-loop-i
invariant-loop-i l =
    ((t : ℕ)
    → tables_from_c l.told.items t ≡ tables_from_c l.fn.told.items t ++ (if l.tree == t then take l.i l.tables else []))
    × (l.tree < 66 → AreKnown is_table l.fn.told.items → AreKnown is_table l.told.items)
