use Rattle.std.proofs.Common.{◌≡◌, drop, map}
use Rattle.trace_faults.specs.Blame.{meets_one}
use Rattle.trace_faults.proofs.blame.meets_one.Given as goal

abbrev pub invariant-loop-other : goal.invariant-loop-other
invariant-loop-other l =
    meets_one (map (λ line. line.now) l.earlier) l.line
    ≡ meets_one (map (λ line. line.now) (drop l.other-index l.earlier)) l.line
