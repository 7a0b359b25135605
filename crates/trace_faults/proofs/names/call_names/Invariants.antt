use Rattle.std.proofs.Common.{◌≡◌, map, take}
use Rattle.call_table.specs.Rows.{calls, row}
use Rattle.trace_faults.proofs.names.call_names.Given as goal

abbrev pub invariant-loop-call : goal.invariant-loop-call
invariant-loop-call l = map (λ name. name.now) l.names.items ≡ map (λ call. (row call).word) (take l.call-index calls)
