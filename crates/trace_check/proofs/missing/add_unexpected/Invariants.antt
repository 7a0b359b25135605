use Rattle.std.proofs.Common.{◌≡◌, ◌++◌, drop}
use Rattle.trace_check.specs.Misses.{unexpected}
use Rattle.trace_check.specs.View.{misses_in}
use Rattle.trace_check.proofs.missing.add_unexpected.Given as goal

abbrev pub invariant-loop-told : goal.invariant-loop-told
invariant-loop-told l =
    misses_in l.found.items ++ unexpected l.number (drop l.told-index l.reported)
    ≡ misses_in l.fn.found.items ++ unexpected l.number l.reported
