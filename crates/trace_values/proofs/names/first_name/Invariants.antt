use Rattle.std.proofs.Common.{◌≡◌, ◌+◌, drop, map}
use Rattle.trace_values.specs.Names.{first_from}
use Rattle.trace_values.proofs.names.first_name.Given as goal

abbrev pub invariant-loop-place : goal.invariant-loop-place
invariant-loop-place l =
    first_from (l.place + 1) (map (λ line. line.now) (drop l.place l.lines))
    ≡ first_from 1 (map (λ line. line.now) l.lines)
