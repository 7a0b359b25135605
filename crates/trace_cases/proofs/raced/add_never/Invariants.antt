use Rattle.std.proofs.Common.{◌≡◌, ◌++◌, drop, map}
use Rattle.trace_check.specs.View.{misses_in}
use Rattle.trace_cases.specs.Races.{never_missed}
use Rattle.trace_cases.proofs.raced.add_never.Given as goal

abbrev pub invariant-loop-kind : goal.invariant-loop-kind
invariant-loop-kind l =
    misses_in l.missed.items
    ++ never_missed l.number (map (λ v. v.items) l.come) (map (λ v. v.items) (drop l.kind-index l.wanted))
    ≡ misses_in l.fn.missed.items ++ never_missed l.number (map (λ v. v.items) l.come) (map (λ v. v.items) l.wanted)
