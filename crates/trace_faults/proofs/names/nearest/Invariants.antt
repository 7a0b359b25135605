use Rattle.std.proofs.Common.{◌≡◌, drop, map}
use Rattle.trace_faults.specs.Names.{nearest as nearest_by, nearest_of}
use Rattle.trace_faults.proofs.names.nearest.Given as goal

abbrev pub invariant-loop-name : goal.invariant-loop-name
invariant-loop-name l =
    nearest_of l.word (map (λ name. name.now) l.names)
    ≡ nearest_by l.word l.least l.found (map (λ name. name.now) (drop l.name-index l.names))
