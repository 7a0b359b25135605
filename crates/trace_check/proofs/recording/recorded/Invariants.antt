use Rattle.std.proofs.Common.{◌≡◌, ◌++◌, drop, map}
use Rattle.trace_check.specs.View.{lines_in, told_in}
use Rattle.trace_check.specs.Records.{recorded}
use Rattle.trace_check.proofs.recording.recorded.Given as goal

abbrev pub invariant-loop-place : goal.invariant-loop-place
invariant-loop-place l =
    lines_in l.recorded.items
    ++ recorded (map (λ line. line.now) (drop l.place l.lines)) (told_in (drop l.place l.told))
    ≡ recorded (map (λ line. line.now) l.lines) (told_in l.told)
