use Rattle.std.proofs.Common.{◌≡◌, ◌+◌, ◌++◌, drop, map}
use Rattle.trace_check.specs.Misses.{missed}
use Rattle.trace_check.specs.View.{misses_in, told_in}
use Rattle.trace_check.proofs.missing.add_missed.Given as goal

abbrev pub invariant-loop-place : goal.invariant-loop-place
invariant-loop-place l =
    misses_in l.found.items
    ++ missed (l.place + 1) (map (λ line. line.now) (drop l.place l.lines)) (told_in (drop l.place l.told))
    ≡ misses_in l.fn.found.items ++ missed 1 (map (λ line. line.now) l.lines) (told_in l.told)
