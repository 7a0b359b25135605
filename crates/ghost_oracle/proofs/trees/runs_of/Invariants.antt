use Rattle.std.proofs.Common.{◌≡◌, ◌++◌}
use Rattle.ghost_oracle.proofs.trees.runs_of.Given as goal

abbrev pub invariant-loop-run : goal.invariant-loop-run
invariant-loop-run l = l.runs.items ++ l.run-iterator ≡ l.maplets.runs
