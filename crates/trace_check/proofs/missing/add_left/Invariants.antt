use Rattle.std.proofs.Common.{◌≡◌, ◌+◌, ◌++◌, drop, map}
use Rattle.trace_check.specs.Misses.{left}
use Rattle.trace_check.specs.View.{misses_in}
use Rattle.trace_check.proofs.missing.add_left.Given as goal

abbrev pub invariant-loop-place : goal.invariant-loop-place
invariant-loop-place l =
    misses_in l.found.items ++ left (l.number + l.place + 1) (map (λ line. line.now) (drop l.place l.lines))
    ≡ misses_in l.fn.found.items ++ left (l.number + 1) (map (λ line. line.now) l.lines)
