use Rattle.std.proofs.Common.{◌≡◌, drop, true}
use Rattle.trace_values.specs.Names.{dollar_from}
use Rattle.trace_values.proofs.names.dollar.Given as goal

abbrev pub invariant-loop-place : goal.invariant-loop-place
invariant-loop-place l = dollar_from l.place l.spaced (drop l.place l.line) ≡ dollar_from 0 true l.line
