use Rattle.std.proofs.Common.{◌≡◌, ◌++◌, drop}
use Rattle.trace_cover.specs.Rows.{rows_in}
use Rattle.trace_cover.proofs.rows.add_rows.Given as goal

abbrev pub invariant-loop-call : goal.invariant-loop-call
invariant-loop-call l = l.rows.items ++ rows_in (drop l.call-index l.calls) ≡ l.fn.rows.items ++ rows_in l.calls
