use Rattle.std.proofs.Common.{◌≡◌, take}
use Rattle.trace_cover.specs.Counted.{counted}
use Rattle.trace_cover.proofs.counting.with_counts.Given as goal

abbrev pub invariant-loop-row : goal.invariant-loop-row
invariant-loop-row l = l.all.items ≡ counted l.seen (take l.row-index l.rows)
