use Rattle.std.proofs.Common.{◌≡◌, drop, map}
use Rattle.trace_faults.specs.Spots.{cpus_word}
use Rattle.trace_faults.proofs.placing.cpus_word.Given as goal

abbrev pub invariant-loop-line : goal.invariant-loop-line
invariant-loop-line l =
    cpus_word (map (λ line. line.now) l.lines) ≡ cpus_word (map (λ line. line.now) (drop l.line-index l.lines))
