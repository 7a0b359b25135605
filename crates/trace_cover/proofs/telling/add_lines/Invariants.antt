use Rattle.std.proofs.Common.{◌≡◌, ◌++◌, drop}
use Rattle.trace_cover.specs.Told.{lines_of}
use Rattle.trace_cover.proofs.telling.add_lines.Given as goal

abbrev pub invariant-loop-counted : goal.invariant-loop-counted
invariant-loop-counted l =
    l.text.items ++ lines_of l.only_missing (drop l.counted-index l.all)
    ≡ l.fn.text.items ++ lines_of l.only_missing l.all
