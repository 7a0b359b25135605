use Rattle.std.proofs.Common.{◌≡◌, map}
use Rattle.trace_cases.specs.Kinds.{trimmed}
use Rattle.trace_cases.proofs.kinds.kinds.Given as goal

abbrev pub invariant-loop-part : goal.invariant-loop-part
invariant-loop-part l = map (λ v. v.items) l.kinds.items ≡ map trimmed (map (λ part. part.now) l.yielded)
