use Rattle.std.proofs.Common.{◌≡◌, drop, map}
use Rattle.trace_faults.specs.Spots.{has_booted}
use Rattle.trace_faults.proofs.placing.has_booted.Given as goal

abbrev pub invariant-loop-line : goal.invariant-loop-line
invariant-loop-line l =
    has_booted (map (λ line. line.now) l.lines) ≡ has_booted (map (λ line. line.now) (drop l.line-index l.lines))
