use Rattle.std.proofs.Common.{◌≡◌, ◌++◌, drop, map}
use Rattle.trace_check.specs.View.{misses_in}
use Rattle.trace_cases.specs.Races.{missed_from}
use Rattle.trace_cases.proofs.raced.add_raced.Given as goal

abbrev pub invariant-loop-place : goal.invariant-loop-place
invariant-loop-place l =
    misses_in l.missed.items
    ++ missed_from (map (λ line. line.now) l.lines) l.steps l.found l.place (drop l.place l.steps)
    ≡ misses_in l.fn.missed.items ++ missed_from (map (λ line. line.now) l.lines) l.steps l.found 0 l.steps
