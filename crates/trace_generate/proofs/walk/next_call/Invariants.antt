use Rattle.std.specs.Prelude.{◌≡◌}
use Rattle.trace_generate.proofs.walk.next_call.Given as goal

abbrev pub invariant-loop : goal.invariant-loop
invariant-loop l = record { same : l.state ≡ l.initial.state }
