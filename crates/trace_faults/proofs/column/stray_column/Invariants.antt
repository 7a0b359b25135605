use Rattle.std.proofs.Common.{◌≡◌, ◌+◌, drop}
use Rattle.trace_faults.specs.Columns.{stray_column}
use Rattle.trace_faults.proofs.column.stray_column.Given as goal

abbrev pub invariant-loop-index : goal.invariant-loop-index
invariant-loop-index l = stray_column l.line ≡ l.index + stray_column (drop l.index l.line)
