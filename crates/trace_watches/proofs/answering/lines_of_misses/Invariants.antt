use Rattle.std.proofs.Common.{◌≡◌, ◌++◌, drop, map}
use Rattle.trace_check.specs.Checks.{miss_lines}
use Rattle.trace_watches.specs.View.{miss_in}
use Rattle.trace_watches.proofs.answering.lines_of_misses.Given as goal

abbrev pub invariant-loop-miss : goal.invariant-loop-miss
invariant-loop-miss l =
    l.text.items ++ miss_lines l.name (map miss_in (drop l.miss-index l.missed))
    ≡ miss_lines l.name (map miss_in l.missed)
