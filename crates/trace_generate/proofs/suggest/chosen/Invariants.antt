use Rattle.std.specs.Prelude.{◌≡◌}
use Rattle.trace_generate.proofs.suggest.chosen.Given as goal

abbrev pub invariant-loop : goal.invariant-loop
invariant-loop l = record { same : l.state ≡ l.initial.state }
