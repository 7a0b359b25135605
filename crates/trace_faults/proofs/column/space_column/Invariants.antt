use Rattle.std.proofs.Common.{◌≡◌, ◌+◌, drop, true}
use Rattle.trace_faults.specs.Columns.{space_column_after}
use Rattle.trace_faults.proofs.column.space_column.Given as goal

abbrev pub invariant-loop-index : goal.invariant-loop-index
invariant-loop-index l = space_column_after true l.line ≡ l.index + space_column_after l.spaced (drop l.index l.line)
