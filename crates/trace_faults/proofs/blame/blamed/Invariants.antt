use Rattle.std.proofs.Common.{◌≡◌, [], drop, map, take}
use Rattle.trace_faults.specs.Blame.{blamed}
use Rattle.trace_faults.proofs.blame.blamed.Given as goal

abbrev pub invariant-loop-place : goal.invariant-loop-place
invariant-loop-place l =
    blamed l.fault [] (map (λ line. line.now) l.lines)
    ≡ blamed l.fault (map (λ line. line.now) (take l.place l.lines)) (map (λ line. line.now) (drop l.place l.lines))
