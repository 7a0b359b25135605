use Rattle.std.proofs.Common.{◌≡◌, ◌++◌, drop}
use Rattle.trace_check.specs.Checks.{miss_lines}
use Rattle.trace_check.specs.View.{misses_in}
use Rattle.trace_check.proofs.writing.add_misses.Given as goal

abbrev pub invariant-loop-miss : goal.invariant-loop-miss
invariant-loop-miss l =
    l.text.items ++ miss_lines l.name (misses_in (drop l.miss-index l.misses))
    ≡ l.fn.text.items ++ miss_lines l.name (misses_in l.misses)
