use Rattle.std.proofs.Common.{◌≡◌, ◌+◌, ◌++◌, drop, map}
use Rattle.trace_check.specs.View.{lines_in, told_in}
use Rattle.trace_cases.specs.RaceChecks.{race_recorded}
use Rattle.trace_cases.proofs.race_notes.race_recorded.Given as goal

abbrev pub invariant-loop-place : goal.invariant-loop-place
invariant-loop-place l =
    lines_in l.recorded.items
    ++ race_recorded l.steps l.found (l.place + 1) (map (λ line. line.now) (drop l.place l.lines))
    (told_in (drop l.place l.told))
    ≡ race_recorded l.steps l.found 1 (map (λ line. line.now) l.lines) (told_in l.told)
