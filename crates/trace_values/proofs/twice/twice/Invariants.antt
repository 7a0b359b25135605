use Rattle.std.proofs.Common.{◌≡◌, ◌+◌, drop, map}
use Rattle.trace_values.specs.Names.{twice, twice_from}
use Rattle.trace_values.proofs.twice.twice.Given as goal

abbrev pub invariant-loop-place : goal.invariant-loop-place
invariant-loop-place l =
    twice_from (map (λ name. name.now) l.seen.items) l.reserved (l.place + 1)
    (map (λ line. line.now) (drop l.place l.lines))
    ≡ twice (map (λ line. line.now) l.lines)
