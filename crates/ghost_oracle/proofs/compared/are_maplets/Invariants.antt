use Rattle.std.proofs.Common.{◌≡◌, ◌++◌, ◌≤◌, take, length}
use Rattle.ghost_oracle.proofs.compared.are_maplets.Given as goal

abbrev pub invariant-loop-run : goal.invariant-loop-run
invariant-loop-run l = record {
  within : l.at ≤ length l.found;
  same : take l.at l.found ++ l.run-iterator ≡ l.maplets.runs;
}
