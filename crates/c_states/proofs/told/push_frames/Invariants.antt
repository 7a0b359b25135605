use Rattle.std.proofs.Common.{◌≡◌, ℕ, [], ◌++◌, take}
use Rattle.std.specs.Prelude.{◌==◌, if◌then◌else◌}
use Rattle.c_states.specs.Lists.{frames_from_c}
use Rattle.std.proofs.Common.{◌<◌, ◌≤◌}
use Rattle.c_states.specs.Known.{is_frame}
use Rattle.c_states.specs.Told.{AreKnown}
use Rattle.c_states.proofs.told.push_frames.Given as goal

abbrev pub invariant-loop-i : goal.invariant-loop-i
invariant-loop-i l =
    ((t : ℕ)
    → frames_from_c l.told.items t ≡ frames_from_c l.fn.told.items t ++ (if l.pool == t then take l.i l.frames else []))
    × (1 ≤ l.pool → l.pool < 66 → AreKnown is_frame l.fn.told.items → AreKnown is_frame l.told.items)
