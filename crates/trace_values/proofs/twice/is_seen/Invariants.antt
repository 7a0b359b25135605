use Rattle.std.proofs.Common.{◌≡◌, drop, map}
use Rattle.trace_values.specs.Names.{is_seen}
use Rattle.trace_values.proofs.twice.is_seen.Given as goal

abbrev pub invariant-loop-other : goal.invariant-loop-other
invariant-loop-other l =
    is_seen (map (λ other. other.now) (drop l.other-index l.seen)) l.name
    ≡ is_seen (map (λ other. other.now) l.seen) l.name
