use Rattle.std.proofs.Common.{◌≡◌, ◌+◌, drop}
use Rattle.trace_faults.specs.Columns.{word_column}
use Rattle.trace_watches.proofs.listing.word_column.Given as goal

abbrev pub invariant-loop-index : goal.invariant-loop-index
invariant-loop-index l = word_column l.line l.fn.place ≡ l.index + word_column (drop l.index l.line) l.left
