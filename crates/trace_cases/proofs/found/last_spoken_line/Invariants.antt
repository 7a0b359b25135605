use Rattle.std.proofs.Common.{◌≡◌, drop, map}
use Rattle.trace_cases.specs.Audits.{last_from, last_spoken_line}
use Rattle.trace_cases.proofs.found.last_spoken_line.Given as goal

abbrev pub invariant-loop-place : goal.invariant-loop-place
invariant-loop-place l =
    last_from l.last l.place (map (λ line. line.now) (drop l.place l.lines))
    ≡ last_spoken_line (map (λ line. line.now) l.lines)
